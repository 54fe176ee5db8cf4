use Rattle.std.proofs.Common.{◌≡◌, ◌∙◌, ap, subst, sym, true, []}
use Rattle.clap.specs.Words.{App, HasKind, fault_of, is_simple, is_simple_and_free, subcommand_of, subcommand_rows_of}
use Rattle.flame_words.specs.Words.{IsReadAs, Reading, asked_by, reading_of, texts_of}
use Rattle.flame_words.proofs.CommandLine.{is_computed, is_covered, read_at_success, refused_at_error}
use Rattle.flame_words.proofs.words.read_words.Goals as goal

pub returns-in-Err : goal.returns-in-Err
returns-in-Err c =
    let words = texts_of c.args.words.now in
    let covered = subst (λ (a : App). is_simple_and_free a ≡ true) (sym c.in-Ok.ensures) is_covered in
    let kinds = c.in-Err.ensures.kinds covered in
    c.error_refusal.ensures (reading_of words) (refused_at_error words c.in-Err.error
    (subst (λ (a : App). HasKind (fault_of a words) c.in-Err.error) c.in-Ok.ensures kinds))

pub returns-in-Ok-try_get_matches_from : goal.returns-in-Ok-try_get_matches_from
returns-in-Ok-try_get_matches_from c =
    let words = texts_of c.args.words.now in
    let matches = c.in-Ok-try_get_matches_from.matches in
    let covered = subst (λ (a : App). is_simple_and_free a ≡ true) (sym c.in-Ok.ensures) is_covered in
    let computed = subst (λ (a : App). is_simple a ≡ true) (sym c.in-Ok.ensures) is_computed in
    let faultless = subst
    (λ (a : App). fault_of a words ≡ []) c.in-Ok.ensures (c.in-Ok-try_get_matches_from.ensures.kinds covered) in
    let rows_are = subst (λ (a : App). subcommand_rows_of matches ≡ subcommand_of a words) c.in-Ok.ensures
    (c.in-Ok-try_get_matches_from.ensures.matches computed).1 in
    subst (λ (reading : Reading). IsReadAs reading c.request_in.result)
    (ap asked_by rows_are ∙ sym (read_at_success words faultless)) c.request_in.ensures
