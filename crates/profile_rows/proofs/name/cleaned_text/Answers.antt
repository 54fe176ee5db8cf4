-- The bytes are text still.
use Rattle.std.proofs.Common.{◌≡◌, map, sym, ap, ◌∙◌, subst, take}
use Rattle.std.proofs.lemmas.List.{take_all}
use Rattle.std.specs.Str.{IsUtf8}
use Rattle.profile_rows.specs.Names.{cleaned_byte}
use Rattle.profile_rows.proofs.Cleaning.{IsUtf8-cleaned}
use Rattle.profile_rows.proofs.name.cleaned_text.Goals as goal

pub returns : goal.returns
returns c =
    let whole : take c.loop-byte.byte-index c.as_bytes-byte-items.result.now ≡ c.args.text.now =
    take_all c.loop-byte.byte-index c.as_bytes-byte-items.result.now c.loop-byte-test.false
    ∙ c.as_bytes-byte-items.ensures.value in
    let cleaned : c.deref.result.now ≡ map cleaned_byte c.args.text.now = c.deref.ensures.value
    ∙ c.loop-byte.invariant ∙ ap (map cleaned_byte) whole in
    c.in_ok-from_utf8_lossy.ensures.ok (subst IsUtf8 (sym cleaned) (IsUtf8-cleaned c.args.text.now c.utf8.text))
    ∙ cleaned
