-- The draft around the samples is the rows' export, which is valid.
use Rattle.std.specs.Prelude.{Err, Ok, Result}
use Rattle.std.specs.declared.vec.Vec.{Vec}
use Rattle.std.proofs.Common.{ℕ, List, ◌≡◌, [], ◌∷◌, ap, ◌∙◌, sym, subst, map, IfOk}
use Rattle.pprof_profile.specs.Canonical.{canonical_bytes_of}
use Rattle.pprof_profile.specs.declared.messages.Draft.{Draft}
use Rattle.pprof_profile.specs.Profiles.{IsProfile}
use Rattle.pprof_profile.specs.Valid.{IsValidDraft}
use Rattle.profile_rows.specs.declared.weighted_stacks.WeightedStack.{WeightedStack}
use Rattle.std.specs.List.{flat_map}
use Rattle.profile_rows.specs.Values.{Row, singles}
use Rattle.profile_samples.specs.Export.{exported_draft, exported_sample, names_of, profile_with, single_profile_of}
use Rattle.profile_samples.specs.Export.{IsExportOf, strings_of}
use Rattle.profile_samples.proofs.ExportLaws.{added-AreSingle, export_valid}
use Rattle.profile_samples.proofs.SampleBatches.{widths-singles}
use Rattle.profile_samples.proofs.folded_export.profile_bytes.Goals as goal

pub exported_draft-requires : goal.exported_draft-requires
exported_draft-requires c =
    let (all, are) = c.requires in
    rw (c.names.ensures) (added-AreSingle _ (flat_map (λ (row : Row). row.stack) (singles all)) are.names_rows)

-- with the samples of the rows the draft is their profile
filled : (draft : Draft) (names : List (List ℕ)) (kind unit : List ℕ)
    (all : List WeightedStack) → draft ≡ exported_draft names ((kind, unit) ∷ [])
    → names ≡ names_of (singles all)
    → (record draft { samples = map (exported_sample names) (singles all) }) ≡ single_profile_of all kind unit
filled draft names kind unit all is same =
    let rows = singles all in
    let units = (kind, unit) ∷ [] in
    ap (λ (d : Draft). let with_samples : Draft = record d { samples = map (exported_sample names) rows } in
    with_samples) is
    ∙ ap (λ texts. profile_with texts (strings_of units texts) rows units) same

both : {T E : Type 0} (items : T → List ℕ) (kind unit : List ℕ) (all : List WeightedStack) (outcome : Result T E)
    → IfOk outcome (λ bytes. items bytes ≡ canonical_bytes_of (single_profile_of all kind unit))
    → IfOk outcome (λ bytes. IsProfile (items bytes) (single_profile_of all kind unit))
    → IfOk outcome (λ bytes. IsExportOf kind unit all (items bytes))
both items kind unit all (Ok bytes) canonical profile = record { canonical = canonical; profile = profile }
both items kind unit all (Err fault) canonical profile = tt

pub returns : goal.returns
returns c = λ all so_far.
    let samples = map (exported_sample c.args.rows.now.row.texts) (singles all) in
    let made = filled c.in_ok-draft.draft c.args.rows.now.row.texts c.args.kind.now c.args.unit.now all
    (rw c.names.ensures at c.in_ok-draft.ensures) so_far.names_rows in
    both (λ (bytes : Vec ℕ _). bytes.items) c.args.kind.now c.args.unit.now all c.encode_around-bytes.result
    (subst (λ d. IfOk c.encode_around-bytes.result (λ bytes. bytes.items ≡ canonical_bytes_of d)) made
    (c.encode_around-bytes.ensures.canonical samples so_far.samples_rows))
    (rw (sym made) (c.encode_around-bytes.ensures.profile samples so_far.samples_rows so_far.fits_rows
    (subst (λ (d : Draft). IsValidDraft d) (sym made)
    (export_valid (singles all) ((c.args.kind.now, c.args.unit.now) ∷ []) (widths-singles all)))))
