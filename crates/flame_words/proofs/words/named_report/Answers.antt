use Rattle.std.proofs.Common.{◌≡◌, ◌∙◌, ap, ap₂, sym, subst, codes}
use Rattle.std.specs.Prelude.{true}
use Rattle.std.proofs.lemmas.Result.{err_from_is_err_and}
use Rattle.clap.specs.Words.{first_of, found_of, rows_of}
use Rattle.flame_report.specs.declared.query.Query.{Query}
use Rattle.flame_words.specs.declared.request.Request.TheVariants.{Report}
use Rattle.flame_words.specs.declared.request.Source.{Source}
use Rattle.flame_words.specs.Options.{is_name_if_given}
use Rattle.flame_words.specs.Words.{IsNameFault}
use Rattle.flame_words.specs.Words.Reading.{asked}
use Rattle.flame_words.proofs.OptionTexts.{misnamed_focus, misnamed_ignore, named_asked}
use Rattle.flame_words.proofs.words.named_report.Goals as goal

pub returns-in_err-focus : goal.returns-in_err-focus
returns-in_err-focus c =
    let p = err_from_is_err_and c.from_residual.result c.from_residual.ensures.1 in
    let rows = rows_of (found_of c.args.options.now) in
    rw (p.1, p.2) (misnamed_focus c.args.kind c.args.format (first_of (codes "value") rows)
    (first_of (codes "focus") rows) (first_of (codes "ignore") rows) c.in_err-focus.field-0.0
    (subst (λ o. IsNameFault o c.in_err-focus.field-0.0) c.given.ensures c.in_err-focus.ensures))

pub returns-in_err-ignore : goal.returns-in_err-ignore
returns-in_err-ignore c =
    let p = err_from_is_err_and c.from_residual-in_err-ignore.result c.from_residual-in_err-ignore.ensures.1 in
    let rows = rows_of (found_of c.args.options.now) in
    rw (p.1, p.2) (misnamed_ignore c.args.kind c.args.format (first_of (codes "value") rows)
    (first_of (codes "focus") rows) (first_of (codes "ignore") rows) c.in_err-ignore.field-0.0
    (subst (λ o. is_name_if_given o ≡ true) c.given.ensures c.in_ok-focus.ensures.1)
    (subst (λ o. IsNameFault o c.in_err-ignore.field-0.0) c.given-2.ensures c.in_err-ignore.ensures))

pub returns : goal.returns
returns c =
    let rows = rows_of (found_of c.args.options.now) in
    let focus = c.in_ok-focus.ensures.0 ∙ c.given.ensures in
    let ignore = c.in_ok-ignore.ensures.0 ∙ c.given-2.ensures in
    let value = c.in_ok-value.ensures ∙ c.given-3.ensures in
    let both = named_asked c.args.kind c.args.format
    (first_of (codes "value") rows) (first_of (codes "focus") rows) (first_of (codes "ignore") rows)
    (subst (λ o. is_name_if_given o ≡ true) c.given.ensures c.in_ok-focus.ensures.1)
    (subst (λ o. is_name_if_given o ≡ true) c.given-2.ensures c.in_ok-ignore.ensures.1) in
    let source : ◌≡◌ {A = Source} (record { format = c.args.format; value = first_of (codes "value") rows })
    (record { format = c.args.format; value = c.in_ok-value.value }) =
    ap (λ v. let s : Source = record { format = c.args.format; value = v } in s) (sym value) in
    let query : ◌≡◌ {A = Query} (record {
      focus =
          first_of (codes "focus") rows;
      ignore = first_of (codes "ignore") rows;
      value = 0;
      kind = c.args.kind;
    })
    (record { focus = c.in_ok-focus.focus; ignore = c.in_ok-ignore.ignore; value = 0; kind = c.args.kind }) =
    ap₂ (λ f i. let q : Query = record { focus = f; ignore = i; value = 0; kind = c.args.kind } in q)
    (sym focus) (sym ignore) in
    both ∙ ap₂ (λ s q. asked (Report s q)) source query
