use Rattle.std.proofs.Common.{◌∙◌, ◌++◌, ap, sym, subst, take}
use Rattle.std.proofs.SliceLists.{all_by_recursion_push}
use Rattle.pprof_wire.specs.Fields.{content, field_bytes_of}
use Rattle.pprof_profile.specs.Canonical.{FitsSample, sample_bytes, samples_bytes}
use Rattle.pprof_profile.specs.Writing.{FitsEach}
use Rattle.pprof_profile.proofs.Appending.{sample_joined}
use Rattle.pprof_profile.proofs.Places.{more_at}
use Rattle.pprof_profile.proofs.encoding.write_samples.Goals as goal

pub loop-index-preserved : goal.loop-index-preserved
loop-index-preserved c =
    let samples = c.args.samples.now in
    let before = take c.loop-index.index samples in
    let more = sym (more_at samples c.loop-index.index c.at.result c.at.ensures) in
    let content_is = c.as_slice.ensures.value ∙ c.in_ok-replace_content.ensures.content in
    record {
      written = sample_joined c.args.out.now.items c.loop-index.out.items c.write_field.new.out.items before c.at.result
          c.loop-index.invariant.written (c.in_ok-write_field.ensures.ok ∙ ap (λ bytes. c.loop-index.out.items
          ++ field_bytes_of (record { number = 2; value = content bytes })) content_is)
          ∙ ap (λ all. c.args.out.now.items ++ samples_bytes all) more;
      fits = subst (FitsEach FitsSample sample_bytes) more
          (all_by_recursion_push _ before c.at.result c.loop-index.invariant.fits c.in_ok-replace_content.ensures.fits);
    }
