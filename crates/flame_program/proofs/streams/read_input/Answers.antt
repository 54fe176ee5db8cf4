use Rattle.std.proofs.Common.{arith}
use Rattle.flame_program.proofs.streams.read_input.Goals as goal

pub loop-input-smaller : goal.loop-input-smaller
loop-input-smaller g c =
    let part = c.in_ok-read_part.ensures (g.R.Read.remaining c.args.reader.now) c.loop-input.invariant.2 in
    let grown = part.grown c.if-branch.true in omega (arith, grown, part.short)

pub loop-input-preserved : goal.loop-input-preserved
loop-input-preserved g c =
    let part = c.in_ok-read_part.ensures (g.R.Read.remaining c.args.reader.now) c.loop-input.invariant.2 in
    (part.short, c.loop-input.invariant.1, part.taken)

pub returns : goal.returns
returns g c =
    let part = c.in_ok-read_part.ensures (g.R.Read.remaining c.args.reader.now) c.loop-input.invariant.2 in
    record { short = part.short; taken = part.taken; at_end = part.at_end c.if-branch.false }
