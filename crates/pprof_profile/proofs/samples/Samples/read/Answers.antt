-- The first field is read, and then the others. A list of ids stands before theirs.
use Rattle.std.proofs.Common.{[], ◌++◌, ◌∷◌, ◌∙◌, ap}
use Rattle.std.proofs.lemmas.Result.{err_from_is_err_and}
use Rattle.pprof_profile.specs.Forms.{table_of}
use Rattle.pprof_profile.specs.LocationLists.{begun_ids}
use Rattle.pprof_profile.specs.Messages.{no_sample, sample_form}
use Rattle.pprof_profile.specs.Reading.{IsReadSoFar}
use Rattle.pprof_profile.specs.SampleLists.{with_ids_before}
use Rattle.pprof_profile.proofs.Gathering.{fault_after, read_after}
use Rattle.pprof_profile.proofs.IdsBefore.{first_fault_before, spells_before}
use Rattle.pprof_profile.proofs.samples.Samples.read.Goals as goal

pub returns-in_err-take_fields : goal.returns-in_err-take_fields
returns-in_err-take_fields c =
    let p = err_from_is_err_and c.from_residual-in_err-take_fields.result
    c.from_residual-in_err-take_fields.ensures.1 in
    let ids = begun_ids c.take_first.new.self.lists c.in_ok-begun.begun in
    let first : IsReadSoFar (table_of sample_form) no_sample c.args.bytes.now
    (with_ids_before ids c.take_first.new.sample) c.take_first.new.fields.bytes =
    rw (ap (λ window. window.bytes) c.new-fields.ensures) at c.in_ok-begun.ensures.taken.1 in
    rw (p.1, p.2) (λ known. fault_after (table_of sample_form) no_sample _ c.args.bytes.now
    c.take_first.new.fields.bytes c.in_err-take_fields.field-0.0 first
    (first_fault_before ids c.take_first.new.sample c.take_first.new.fields.bytes c.in_err-take_fields.field-0.0
    (c.in_err-take_fields.ensures.fault known)))

pub returns : goal.returns
returns c =
    let ids = begun_ids c.take_first.new.self.lists c.in_ok-begun.begun in
    let first : IsReadSoFar (table_of sample_form) no_sample c.args.bytes.now
    (with_ids_before ids c.take_first.new.sample) c.take_first.new.fields.bytes =
    rw (ap (λ window. window.bytes) c.new-fields.ensures) at c.in_ok-begun.ensures.taken.1 in
    record {
      item = with_ids_before ids c.take_fields.new.message;
      spelled = read_after (table_of sample_form) no_sample _ c.args.bytes.now c.take_first.new.fields.bytes
          (with_ids_before ids c.take_fields.new.message) first
          (spells_before ids c.take_first.new.sample c.take_fields.new.message c.take_first.new.fields.bytes
          c.in_ok-take_fields.ensures.done);
      appended = c.in_ok-push.ensures
          ∙ ap (λ before. before ++ with_ids_before ids c.take_fields.new.message ∷ [])
          (c.take_first.ensures.kept ∙ c.self.view_is);
    }
