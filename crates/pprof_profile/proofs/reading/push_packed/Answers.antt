use Rattle.std.proofs.Common.{◌++◌, List, ℕ, ap, sym, ◌∙◌, append_assoc}
use Rattle.pprof_profile.proofs.Gathering.{unpacked_more}
use Rattle.pprof_profile.proofs.reading.push_packed.Goals as goal

pub loop-read-preserved : goal.loop-read-preserved
loop-read-preserved g c =
    let (spelling, parts, spelled) = rw c.in-Ok.is at c.in-Some.ensures.read.number in
    let so-far = c.loop-read.invariant in
    record {
      front = so-far.front ++ spelling;
      parts = so-far.parts ∙ ap (λ (left : List ℕ). so-far.front ++ left) parts
          ∙ sym (append_assoc so-far.front spelling c.next_value.new.self);
      unpacked = rw (c.in_ok-push-in-Ok.ensures.pushed, c.from_varint.ensures)
          (unpacked_more g.N.Number.of
          c.args.items.now c.loop-read.items so-far.front spelling c.in-Ok.number so-far.unpacked spelled);
    }
