-- `==` on queries and answers is equality of what they hold, so it is an equivalence.
use Rattle.std.proofs.lemmas.Grind.{common_steps}
use Rattle.std.proofs.Common.{ℕ, List, refl, arith}
use Rattle.std.specs.Prelude.{◌≡◌, Bool, true, false, ◌==◌, ◌&&◌, Option, Some, None}
use Rattle.std.specs.Bool.{Decides}
use Rattle.std.specs.Option.{option_eq}
use Rattle.std.specs.Cmp.{IsEquivalence, unsigned_Decides}
use Rattle.std.specs.Cmp.Lexicographic.{pointwise}
use lib.Pointwise.{pointwise_decides}
use Rattle.profile_rows.specs.Names.{is_same_name}
use Rattle.profile_rows.specs.declared.frame_totals.FrameTotal.{FrameTotal}
use Rattle.profile_rows.proofs.EqualRows.{both_decide, decided-IsEquivalence, is_same_name-decides}
use Rattle.flame_report.specs.declared.answer.Answer.{Answer}
use Rattle.flame_report.specs.declared.answer.Answer.TheVariants as answer
use Rattle.flame_report.specs.declared.answer.Flame.{Flame}
use Rattle.flame_report.specs.declared.answer.Rect.{Rect}
use Rattle.flame_report.specs.declared.answer.Top.{Top}
use Rattle.flame_report.specs.declared.query.Kind.{Kind}
use Rattle.flame_report.specs.declared.query.Kind.TheVariants as kind
use Rattle.flame_report.specs.declared.query.Query.{Query}
use Rattle.flame_report.specs.declared.query.Rank.{Rank}
use Rattle.flame_report.specs.declared.query.Rank.TheVariants.{Flat, Cum}

-- ---- queries

abbrev pub rank_eq : Rank → Rank → Bool
rank_eq Flat Flat = true
rank_eq Cum Cum = true
rank_eq a b = false

abbrev pub kind_eq : Kind → Kind → Bool
kind_eq kind.Total kind.Total = true
kind_eq (kind.Top rank count) (kind.Top other more) = rank_eq rank other && (count == more)
kind_eq (kind.Flame columns) (kind.Flame others) = columns == others
kind_eq kind.Folded kind.Folded = true
kind_eq a b = false

abbrev pub query_eq : Query → Query → Bool
query_eq a b = option_eq is_same_name a.focus b.focus && option_eq is_same_name a.ignore b.ignore
    && (a.value == b.value) && kind_eq a.kind b.kind

rank_eq-decides : (a b : Rank) → Decides (rank_eq a b) (a ≡ b)
rank_eq-decides Flat Flat = (λ e. refl, λ e. refl)
rank_eq-decides Cum Cum = (λ e. refl, λ e. refl)
rank_eq-decides a b = (λ e. cc, λ e. cc)

kind_eq-decides : (a b : Kind) → Decides (kind_eq a b) (a ≡ b)
kind_eq-decides kind.Total kind.Total = (λ e. refl, λ e. refl)
kind_eq-decides (kind.Top rank count) (kind.Top other more) =
    grind (arith, common_steps, both_decide, rank_eq-decides)
kind_eq-decides (kind.Flame columns) (kind.Flame others) = grind (arith, common_steps)
kind_eq-decides kind.Folded kind.Folded = (λ e. refl, λ e. refl)
kind_eq-decides a b = (λ e. cc, λ e. cc)

name_eq-decides : (a b : Option (List ℕ)) → Decides (option_eq is_same_name a b) (a ≡ b)
name_eq-decides (Some a) (Some b) = grind (arith, common_steps, is_same_name-decides)
name_eq-decides None None = (λ e. refl, λ e. refl)
name_eq-decides a b = (λ e. cc, λ e. cc)

pub query_eq-decides : (a b : Query) → Decides (query_eq a b) (a ≡ b)
query_eq-decides a b =
    let names = both_decide _ _ (name_eq-decides a.focus b.focus) (name_eq-decides a.ignore b.ignore) in
    let parts = both_decide _ _ (both_decide _ _ names (unsigned_Decides a.value b.value))
    (kind_eq-decides a.kind b.kind) in
    grind (arith, common_steps, parts)

pub query_eq-laws : IsEquivalence query_eq
query_eq-laws = decided-IsEquivalence query_eq-decides

-- ---- answers

abbrev pub frame_total_eq : FrameTotal → FrameTotal → Bool
frame_total_eq a b = is_same_name a.name b.name && (a.flat == b.flat) && (a.cum == b.cum)

abbrev pub rect_eq : Rect → Rect → Bool
rect_eq a b = (a.depth == b.depth) && is_same_name a.name b.name && (a.x == b.x) && (a.weight == b.weight)
    && (a.left == b.left) && (a.right == b.right)

abbrev pub top_eq : Top → Top → Bool
top_eq a b = (a.total == b.total) && pointwise frame_total_eq a.rows b.rows

abbrev pub flame_eq : Flame → Flame → Bool
flame_eq a b = (a.total == b.total) && (a.columns == b.columns) && pointwise rect_eq a.rects b.rects

abbrev pub answer_eq : Answer → Answer → Bool
answer_eq (answer.Total total) (answer.Total other) = total == other
answer_eq (answer.Top top) (answer.Top other) = top_eq top other
answer_eq (answer.Flame flame) (answer.Flame other) = flame_eq flame other
answer_eq (answer.Folded text) (answer.Folded other) = pointwise ◌==◌ text other
answer_eq a b = false

frame_total_eq-decides : (a b : FrameTotal) → Decides (frame_total_eq a b) (a ≡ b)
frame_total_eq-decides a b = grind (arith, common_steps, both_decide, is_same_name-decides)

rect_eq-decides : (a b : Rect) → Decides (rect_eq a b) (a ≡ b)
rect_eq-decides a b = grind (arith, common_steps, both_decide, is_same_name-decides)

top_eq-decides : (a b : Top) → Decides (top_eq a b) (a ≡ b)
top_eq-decides a b = grind (arith, common_steps, both_decide, pointwise_decides, frame_total_eq-decides)

flame_eq-decides : (a b : Flame) → Decides (flame_eq a b) (a ≡ b)
flame_eq-decides a b = grind (arith, common_steps, both_decide, pointwise_decides, rect_eq-decides)

pub answer_eq-decides : (a b : Answer) → Decides (answer_eq a b) (a ≡ b)
answer_eq-decides (answer.Total total) (answer.Total other) = grind (arith, common_steps)
answer_eq-decides (answer.Top top) (answer.Top other) = grind (arith, common_steps, top_eq-decides)
answer_eq-decides (answer.Flame flame) (answer.Flame other) = grind (arith, common_steps, flame_eq-decides)
answer_eq-decides (answer.Folded text) (answer.Folded other) =
    grind (arith, common_steps, pointwise_decides, unsigned_Decides)
answer_eq-decides a b = (λ e. cc, λ e. cc)

pub answer_eq-laws : IsEquivalence answer_eq
answer_eq-laws = decided-IsEquivalence answer_eq-decides
