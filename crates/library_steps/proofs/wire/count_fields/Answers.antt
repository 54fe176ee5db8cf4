use Rattle.std.proofs.Common.{ℕ, List, [], ◌∷◌, ◌++◌, ◌∙◌, sym, ap, length, arith, append_assoc, length-append}
use Rattle.pprof_wire.specs.Fields.{field_of}
use Rattle.pprof_wire.proofs.ListLaws.{one_field_listed, fields_joined, fault_without_field}
use Rattle.library_steps.proofs.wire.count_fields.Goals as goal

pub loop-read-preserved : goal.loop-read-preserved
loop-read-preserved c =
    let so-far = c.loop-read.invariant in
    let next = rw c.in-Ok.is at c.in-Some.ensures.read.field in
    let shorter = rw c.in-Ok.is at c.in-Some.ensures.read.shorter in
    record {
      front = so-far.front ++ next.spelling;
      fields = so-far.fields ++ field_of c.in-Ok.field-0 ∷ [];
      parts = so-far.parts ∙ ap (λ (rest : List ℕ). so-far.front ++ rest) next.after.parts
          ∙ sym (append_assoc so-far.front next.spelling c.next_field.new.self.bytes);
      listed = fields_joined so-far.front next.spelling so-far.fields (field_of c.in-Ok.field-0 ∷ []) so-far.listed
          (one_field_listed next.spelling (field_of c.in-Ok.field-0) next.spelled);
      counted = omega (arith, so-far.counted, length-append so-far.fields (field_of c.in-Ok.field-0 ∷ []));
      fits = omega (
        arith,
        so-far.fits,
        length-append so-far.front next.spelling,
        ap length next.after.parts,
        length-append next.spelling c.next_field.new.self.bytes,
        shorter,
      );
    }

pub returns-in-Err : goal.returns-in-Err
returns-in-Err c =
    let so-far = c.loop-read.invariant in
    let wrong = rw c.in-Err.is at c.in-Some.ensures.read.fault in (
      so-far.fields,
      c.loop-read.fields.bytes,
      record {
        front = so-far.front;
        parts = so-far.parts;
        listed =
            so-far.listed;
        ends = fault_without_field c.in-Err.fault c.loop-read.fields.bytes wrong.1;
      },
      so-far.counted,
      wrong.1,
    )
