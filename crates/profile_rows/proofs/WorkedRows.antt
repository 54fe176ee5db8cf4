-- Worked examples, computed by the definitions. Each line is checked by evaluating it.
use Rattle.std.proofs.Common.{◌≡◌, ℕ, List, [], ◌∷◌, ◌++◌, refl, codes}
use Rattle.std.specs.Prelude.{Some, None}
use Rattle.std.specs.declared.cmp.Ordering.TheVariants.{Less}
use Rattle.std.specs.Fmt.{digits}
use Rattle.profile_rows.specs.declared.weighted_stacks.WeightedStack.{WeightedStack}
use Rattle.profile_rows.specs.Rows.{stack_cmp, total_of, flat_weight_of, cumulative_weight_of, kept_rows}
use Rattle.profile_rows.specs.Layout.{Rectangle, rectangles_of}
use Rattle.profile_rows.specs.TopList.{top_report_of}
use Rattle.profile_rows.specs.TopList.Ranking.{by_flat, by_cumulative}

abbrev main : List ℕ
main = codes "main"

abbrev pub a : List ℕ
a = codes "a"

abbrev pub b : List ℕ
b = codes "b"

abbrev pub c : List ℕ
c = codes "c"

abbrev f : List ℕ
f = codes "f"

abbrev g : List ℕ
g = codes "g"

abbrev pub row : List (List ℕ) → ℕ → WeightedStack
row stack weight = record { stack = stack; weight = weight }

-- these lines, each with its line feed
abbrev pub text : List (List ℕ) → List ℕ
text [] = []
text (line ∷ lines) = line ++ 10 ∷ text lines

-- main;a;b 3, main;a 2, main;c 5
abbrev three : List WeightedStack
three = row (main ∷ a ∷ b ∷ []) 3 ∷ row (main ∷ a ∷ []) 2 ∷ row (main ∷ c ∷ []) 5 ∷ []

-- main;f;g;f 4
abbrev recursion : List WeightedStack
recursion = row (main ∷ f ∷ g ∷ f ∷ []) 4 ∷ []

-- a name that recurs counts once in a row
recursion-cumulative : cumulative_weight_of recursion f ≡ 4
recursion-cumulative = refl

recursion-flat : flat_weight_of recursion f ≡ 4
recursion-flat = refl

recursion-caller : flat_weight_of recursion g ≡ 0
recursion-caller = refl

recursion-top : top_report_of by_flat 20 recursion
    ≡ text (codes "total 4" ∷ codes "4 4 f" ∷ codes "0 4 g" ∷ codes "0 4 main" ∷ [])
unfolding digits
recursion-top = refl

three-total : total_of three ≡ 10
three-total = refl

three-top : top_report_of by_flat 20 three
    ≡ text (codes "total 10" ∷ codes "5 5 c" ∷ codes "3 3 b" ∷ codes "2 5 a" ∷ codes "0 10 main" ∷ [])
unfolding digits
three-top = refl

three-top-cumulative : top_report_of by_cumulative 20 three
    ≡ text (codes "total 10" ∷ codes "0 10 main" ∷ codes "2 5 a" ∷ codes "5 5 c" ∷ codes "3 3 b" ∷ [])
unfolding digits
three-top-cumulative = refl

three-top-one : top_report_of by_cumulative 1 three ≡ text (codes "total 10" ∷ codes "0 10 main" ∷ [])
unfolding digits
three-top-one = refl

three-top-none : top_report_of by_cumulative 0 three ≡ text (codes "total 10" ∷ [])
unfolding digits
three-top-none = refl

empty-top : top_report_of by_flat 20 [] ≡ text (codes "total 0" ∷ [])
unfolding digits
empty-top = refl

weightless-top : top_report_of by_flat 20 (row (f ∷ []) 0 ∷ []) ≡ text (codes "total 0" ∷ [])
unfolding digits
weightless-top = refl

abbrev rectangle : ℕ → List ℕ → ℕ → ℕ → ℕ → ℕ → Rectangle
rectangle depth name start weight left right =
    record { depth = depth; name = name; start = start; weight = weight; left = left; right = right }

-- five columns: the own weight of `a` lies at its right, and `b` and `c` start at their parents' left edges
three-in-five-columns : rectangles_of 5 three ≡
    rectangle 0 [] 0
    10 0 5 ∷ rectangle 1 main 0 10 0 5 ∷ rectangle 2 a 0 5 0 2 ∷ rectangle 3 b 0 3 0 1 ∷ rectangle 2 c 5 5 2 5 ∷ []
three-in-five-columns = refl

-- one column: what takes no column is left out
three-in-one-column : rectangles_of 1 three
    ≡ rectangle 0 [] 0 10 0 1 ∷ rectangle 1 main 0 10 0 1 ∷ rectangle 2 c 5 5 0 1 ∷ []
three-in-one-column = refl

weightless-layout : rectangles_of 5 (row (f ∷ []) 0 ∷ []) ≡ []
weightless-layout = refl

lone-root : rectangles_of 5 (row [] 5 ∷ []) ≡ rectangle 0 [] 0 5 0 5 ∷ []
lone-root = refl

greatest-weight : rectangles_of 65535 (row (a ∷ []) 9223372036854775807 ∷ []) ≡
    rectangle 0 [] 0 9223372036854775807 0 65535 ∷ rectangle 1 a 0 9223372036854775807 0 65535 ∷ []
greatest-weight = refl

-- focus, ignored name, and both
three-focus : top_report_of by_flat 20 (kept_rows (Some a) None three)
    ≡ text (codes "total 5" ∷ codes "3 3 b" ∷ codes "2 5 a" ∷ codes "0 5 main" ∷ [])
unfolding digits
three-focus = refl

three-ignored : top_report_of by_flat 20 (kept_rows None (Some b) three)
    ≡ text (codes "total 7" ∷ codes "5 5 c" ∷ codes "2 2 a" ∷ codes "0 7 main" ∷ [])
unfolding digits
three-ignored = refl

three-both : top_report_of by_flat 20 (kept_rows (Some a) (Some b) three)
    ≡ text (codes "total 2" ∷ codes "2 2 a" ∷ codes "0 2 main" ∷ [])
unfolding digits
three-both = refl

three-unknown-focus : top_report_of by_flat 20 (kept_rows (Some g) None three) ≡ text (codes "total 0" ∷ [])
unfolding digits
three-unknown-focus = refl

-- stacks are ordered as lists of names, and not as joined text
names-first : stack_cmp (a ∷ b ∷ []) (codes "a!" ∷ codes "x" ∷ []) ≡ Less
names-first = refl

prefix-first : stack_cmp (a ∷ []) (a ∷ b ∷ []) ≡ Less
prefix-first = refl
