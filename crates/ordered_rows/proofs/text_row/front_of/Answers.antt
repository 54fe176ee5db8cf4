-- The digits are those of the text, one after the other.
use Rattle.std.proofs.Common.{◌≡◌, [], ◌∷◌, ap, arith, rules, subst, sym}
use Rattle.ordered_rows.specs.StackOrder.{AreDigits, digits_of, with_digits}
use Rattle.ordered_rows.proofs.text_row.front_of.Goals as goal

seven : (c : goal.After-first_rank-seventh) → digits_of 7 c.args.text.now ≡ c.first_rank-first.result.0
    ∷ c.first_rank-second.result.0 ∷ c.first_rank-third.result.0 ∷ c.first_rank-fourth.result.0
    ∷ c.first_rank-fifth.result.0 ∷ c.first_rank-sixth.result.0 ∷ c.first_rank-seventh.result.0 ∷ []
seven c =
    cc (
      ap (digits_of 7) c.as_bytes.ensures.value,
      c.first_rank-first.ensures.digits 6,
      c.first_rank-second.ensures.digits 5,
      c.first_rank-third.ensures.digits 4,
      c.first_rank-fourth.ensures.digits 3,
      c.first_rank-fifth.ensures.digits 2,
      c.first_rank-sixth.ensures.digits 1,
      c.first_rank-seventh.ensures.digits 0,
    )

pub returns : goal.returns
returns c = record {
  front_is = omega (arith, ap (with_digits 0) (seven c));
  digits = subst AreDigits (sym (seven c)) (search rules);
}
