-- The first field is taken after nothing.
use Rattle.std.proofs.Common.{inl, inr, refl}
use Rattle.std.proofs.lemmas.Result.{MatchResult-weaker}
use Rattle.pprof_wire.specs.Fields.{field_of}
use Rattle.pprof_profile.specs.Forms.{table_of}
use Rattle.pprof_profile.specs.LocationLists.{begun_ids}
use Rattle.pprof_profile.specs.Messages.{no_sample, sample_form}
use Rattle.pprof_profile.specs.Reading.{IsReadSoFar}
use Rattle.pprof_profile.specs.SampleLists.{with_ids_before}
use Rattle.pprof_profile.proofs.Gathering.{nothing_read, read_more}
use Rattle.pprof_profile.proofs.samples.SampleLists.take_first.Goals as goal

pub returns-in-Some-Ok-clause-taken : goal.returns-in-Some-Ok-clause-taken
returns-in-Some-Ok-clause-taken c =
    let bytes = c.args.fields.now.bytes in
    let next = rw c.in-Some-Ok.field-0-is at c.in-Some-Ok.ensures.read.field in
    let nothing : IsReadSoFar (table_of sample_form) no_sample bytes c.args.sample.now bytes =
    rw c.requires (nothing_read (table_of sample_form) no_sample bytes) in
    MatchResult-weaker c.take_field.result c.take_field.ensures.taken
    (λ begun taken. (
      taken.0,
      read_more (table_of sample_form) no_sample c.args.sample.now
          (with_ids_before (begun_ids c.take_field.new.self.lists begun) c.take_field.new.sample) bytes bytes
          next.spelling
          c.next_field.new.self.bytes (field_of c.in-Some-Ok.field) nothing next.after.parts next.spelled taken.1,
    ))
    (λ fault is known. record {
      so_far = c.args.sample.now;
      rest = bytes;
      read = nothing;
      faulty = inl (record {
        spelling = next.spelling;
        rest = c.next_field.new.self.bytes;
        field = field_of c.in-Some-Ok.field;
        parts = next.after.parts;
        spelled = next.spelled;
        faulty = is known;
      });
    })

pub returns-in-Some-Err-clause-taken : goal.returns-in-Some-Err-clause-taken
returns-in-Some-Err-clause-taken c = λ known. record {
  so_far = no_sample;
  rest = c.args.fields.now.bytes;
  read = nothing_read (table_of sample_form) no_sample c.args.fields.now.bytes;
  faulty = inr (record {
    wrong = c.in-Some-Err.fault;
    is = refl;
    faulty = (rw c.in-Some-Err.field-0-is at c.in-Some-Err.ensures.read.fault).1;
  });
}
