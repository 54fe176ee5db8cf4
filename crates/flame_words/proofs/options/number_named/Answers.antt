use Rattle.std.proofs.Common.{◌∙◌, sym}
use Rattle.flame_words.proofs.OptionTexts.{IsNumeral-number, number_found}
use Rattle.flame_words.proofs.options.number_named.Goals as goal

pub number_of-requires : goal.number_of-requires
number_of-requires c = IsNumeral-number c.args.text.now (sym c.is_number.ensures ∙ c.if-not-is_number.false)

pub returns : goal.returns
returns c = number_found c.args.text.now c.number_of.result
    (sym c.is_number.ensures ∙ c.if-not-is_number.false) c.number_of.ensures
