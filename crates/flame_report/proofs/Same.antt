-- An answer depends on the aggregate of the rows alone.
use Rattle.std.proofs.lemmas.Grind.{common_steps}
use Rattle.std.proofs.Common.{arith, ◌≡◌, List, true, Result, Ok, Err, sym, ap, ◌∙◌}
use Rattle.std.specs.Prelude.{IfOk}
use Rattle.profile_rows.specs.declared.weighted_stacks.WeightedStack.{WeightedStack}
use Rattle.profile_rows.specs.Aggregate.{aggregate_of, rows_of}
use Rattle.folded_text.specs.FoldedText.{rows_text}
use Rattle.profile_rows.specs.Rows.{total_of}
use Rattle.profile_rows.proofs.AnswerLaws.{aggregate_of-rows_of, kept_rows-same, top_list_of-same_aggregate}
use Rattle.profile_rows.proofs.AnswerLaws.{rectangles_of-same}
use Rattle.profile_rows.proofs.EntryLaws.{weight_where-same}
use Rattle.flame_report.specs.Answers.{answer_by, answer_of}
use Rattle.flame_report.specs.declared.answer.Answer.TheVariants as answer
use Rattle.flame_report.specs.declared.query.Kind.{Kind}
use Rattle.flame_report.specs.declared.query.Kind.TheVariants as kind
use Rattle.flame_report.specs.declared.query.Query.{Query}

total_of-same : (rows others : List WeightedStack)
    → aggregate_of rows ≡ aggregate_of others → total_of rows ≡ total_of others
total_of-same rows others same = weight_where-same (λ stack. true) rows others same

answer_by-same : (asked : Kind) (rows others : List WeightedStack)
    → aggregate_of rows ≡ aggregate_of others → answer_by asked rows ≡ answer_by asked others
answer_by-same kind.Total rows others same = ap answer.Total (total_of-same rows others same)
answer_by-same (kind.Top rank count) rows others same =
    grind (arith, common_steps, top_list_of-same_aggregate, total_of-same)
answer_by-same (kind.Flame columns) rows others same = grind (arith, common_steps, rectangles_of-same, total_of-same)
answer_by-same kind.Folded rows others same = ap (λ weights. answer.Folded (rows_text (rows_of weights))) same

pub answer_of-same : (query : Query) (rows others : List WeightedStack)
    → aggregate_of rows ≡ aggregate_of others → answer_of rows query ≡ answer_of others query
answer_of-same query rows others same = grind (arith, common_steps, kept_rows-same, answer_by-same)

-- the rows of the aggregate have the answer
pub answer_of-rows_of : (query : Query) (rows held : List WeightedStack)
    → aggregate_of rows ≡ aggregate_of held → answer_of (rows_of (aggregate_of held)) query ≡ answer_of rows query
answer_of-rows_of query rows held same =
    answer_of-same query (rows_of (aggregate_of held)) rows (aggregate_of-rows_of held ∙ sym same)

pub if_ok_seen : {T E Y : Type 0} (seen : T → Y) (result : Result T E) (a b : Y)
    → a ≡ b → IfOk result (λ x. seen x ≡ a) → IfOk result (λ x. seen x ≡ b)
if_ok_seen seen (Ok x) a b same is = is ∙ same
if_ok_seen seen (Err e) a b same is = tt
