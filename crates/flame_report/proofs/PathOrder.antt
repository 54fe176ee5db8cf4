-- How the paths of stacks, the order of stacks and what stacks share go together.
use Rattle.std.proofs.Common.{ℕ, ◌≡◌, ◌<◌, ◌≤◌, List, [], ◌∷◌, ◌++◌, length, take, drop, Bool, true, false, not, ◌&&◌}
use Rattle.std.proofs.Common.{◌||◌, refl, arith, zero, suc}
use Rattle.std.specs.Ordering.{ordering_reverse, eq_by_cmp, is_gt}
use Rattle.std.specs.declared.cmp.Ordering.TheVariants.{Less, Equal}
use Rattle.std.specs.Cmp.{IsTotalOrder}
use Rattle.std.specs.Cmp.Lexicographic.{nat_list_cmp_total}
use Rattle.std.specs.FinMap.{slice_cmp-IsAntisymmetric, nat_cmp-IsAntisymmetric}
use Rattle.std.specs.List.{common_prefix_len}
use Rattle.std.proofs.lemmas.Cmp.{tied_itself}
use Rattle.profile_rows.specs.Paths.{begins_with, lies_left_of}
use Rattle.profile_rows.specs.Names.{name_cmp}
use Rattle.profile_rows.specs.Rows.{stack_cmp, is_same_stack}

abbrev pub Path : Type 0
Path = List (List ℕ)

-- whether a stack begins with a path, and whether it lies left of it
abbrev pub begins : Path → Path → Bool
begins = begins_with name_cmp

abbrev pub is_left : Path → Path → Bool
is_left = lies_left_of name_cmp

-- whether it lies left of the path's end: left of the path, or below it
abbrev pub is_left_of_end : Path → Path → Bool
is_left_of_end path stack = is_left path stack || begins path stack

-- how many names two stacks have in common
abbrev pub shared : Path → Path → ℕ
shared = common_prefix_len (eq_by_cmp name_cmp)

pub names_total : IsTotalOrder name_cmp
names_total = nat_list_cmp_total

-- names that tie are one name
pub same_name : (x y : List ℕ) → name_cmp x y ≡ Equal → (name_cmp x y ≡ Equal) × (x ≡ y)
same_name x y e = (e, slice_cmp-IsAntisymmetric nat_cmp-IsAntisymmetric x y e)

pub name_itself : (x : List ℕ) → name_cmp x x ≡ Equal
name_itself x = tied_itself names_total x

pub turned : (x y : List ℕ) → name_cmp x y ≡ ordering_reverse (name_cmp y x)
turned x y = names_total.antisymm x y

-- what stands between two stacks with a common beginning has it too
pub prefix_between : (p s t u : Path) → begins p s ≡ true → is_gt (stack_cmp s t) ≡ false
    → is_gt (stack_cmp t u) ≡ false → begins p u ≡ true → begins p t ≡ true
prefix_between [] s t u a st tu b = refl
prefix_between (n ∷ p) [] t u a st tu b = cc
prefix_between (n ∷ p) (f ∷ s) [] u a st tu b = cc
prefix_between (n ∷ p) (f ∷ s) (g ∷ t) [] a st tu b = cc
prefix_between (n ∷ p) (f ∷ s) (g ∷ t) (h ∷ u) a st tu b = grind (arith, same_name, turned, prefix_between p s t u)

-- a stack that begins with the path doesn't lie left of it, nor does one after it
pub not_left_after : (p s t : Path) → begins p s ≡ true → is_gt (stack_cmp s t) ≡ false → is_left p t ≡ false
not_left_after [] s t a st = refl
not_left_after (n ∷ p) s [] a st = refl
not_left_after (n ∷ p) [] (g ∷ t) a st = cc
not_left_after (n ∷ p) (f ∷ s) (g ∷ t) a st = grind (arith, same_name, turned, not_left_after p s t)

pub not_left_under : (p s : Path) → begins p s ≡ true → is_left p s ≡ false
not_left_under [] s a = refl
not_left_under (n ∷ p) [] a = refl
not_left_under (n ∷ p) (f ∷ s) a = grind (arith, not_left_under p s)

-- a stack before one that begins with the path, and doesn't begin with it, lies left of it or is a part of the path
pub left_or_prefix : (p s u : Path) → begins p u ≡ true
    → stack_cmp s u ≡ Less → begins p s ≡ false → is_left p s ≡ not (begins s p)
left_or_prefix [] s u a su b = cc
left_or_prefix (n ∷ p) s [] a su b = cc
left_or_prefix (n ∷ p) [] (h ∷ u) a su b = refl
left_or_prefix (n ∷ p) (f ∷ s) (h ∷ u) a su b = grind (arith, same_name, turned, left_or_prefix p s u)

pub prefix_itself : (s : Path) → begins s s ≡ true
prefix_itself [] = refl
prefix_itself (f ∷ s) = grind (arith, name_itself, prefix_itself s)

-- a part of what is taken of a stack is a part of the stack, and so the other way round where it is short enough
pub prefix_of_take : (p s : Path) (d : ℕ) → (begins p s ≡ true → length p ≤ d) → begins p (take d s) ≡ begins p s
prefix_of_take [] s d short = refl
prefix_of_take (n ∷ p) [] zero short = refl
prefix_of_take (n ∷ p) [] (suc d) short = refl
prefix_of_take (n ∷ p) (f ∷ s) zero short = grind arith
prefix_of_take (n ∷ p) (f ∷ s) (suc d) short = grind (arith, prefix_of_take p s d)

pub take_begins_with : (d : ℕ) (s : Path) → begins (take d s) s ≡ true
take_begins_with zero s = refl
take_begins_with (suc d) [] = refl
take_begins_with (suc d) (f ∷ s) = grind (arith, name_itself, take_begins_with d s)

pub take_less : (i j : ℕ) (s : Path) → i < j → j ≤ length s → stack_cmp (take i s) (take j s) ≡ Less
take_less i zero s low high = absurd (omega arith)
take_less i (suc j) [] low high = absurd (omega arith)
take_less zero (suc j) (f ∷ s) low high = refl
take_less (suc i) (suc j) (f ∷ s) low high = grind (arith, name_itself, take_less i j s)

-- what is no longer than what two stacks share begins both or none, and what begins both is no longer
pub prefix_shared : (p s t : Path) → length p ≤ shared s t → begins p s ≡ begins p t
prefix_shared [] s t h = refl
prefix_shared (n ∷ p) [] t h = absurd (omega arith)
prefix_shared (n ∷ p) (f ∷ s) [] h = absurd (omega arith)
prefix_shared (n ∷ p) (f ∷ s) (g ∷ t) h = grind (arith, same_name, prefix_shared p s t)

pub shared_prefix : (p s t : Path) → begins p s ≡ true → begins p t ≡ true → length p ≤ shared s t
shared_prefix [] s t a b = omega arith
shared_prefix (n ∷ p) [] t a b = cc
shared_prefix (n ∷ p) (f ∷ s) [] a b = cc
shared_prefix (n ∷ p) (f ∷ s) (g ∷ t) a b = grind (arith, same_name, turned, name_itself, shared_prefix p s t)

pub take_shared : (d : ℕ) (s t : Path) → d ≤ shared s t → take d s ≡ take d t
take_shared zero s t h = refl
take_shared (suc d) [] t h = absurd (omega arith)
take_shared (suc d) (f ∷ s) [] h = absurd (omega arith)
take_shared (suc d) (f ∷ s) (g ∷ t) h = grind (arith, same_name, take_shared d s t)

-- of two stacks in order the later one has a name more than they share
pub shared_less : (s t : Path) → stack_cmp s t ≡ Less → shared s t < length t
shared_less [] [] e = cc
shared_less [] (g ∷ t) e = omega arith
shared_less (f ∷ s) [] e = cc
shared_less (f ∷ s) (g ∷ t) e = grind (arith, shared_less s t)

-- a stack is no part of a shorter one
pub not_prefix_longer : (p s : Path) → length s < length p → begins p s ≡ false
not_prefix_longer [] s h = absurd (omega arith)
not_prefix_longer (n ∷ p) [] h = refl
not_prefix_longer (n ∷ p) (f ∷ s) h = grind (arith, not_prefix_longer p s)

-- a part of the earlier stack stands before a path that only the later one has
pub before_new : (x y r s : Path)
    → begins x r ≡ true → stack_cmp r s ≡ Less → begins y s ≡ true → begins y r ≡ false → stack_cmp x y ≡ Less
before_new x [] r s a rs b c = cc
before_new [] (m ∷ y) r s a rs b c = refl
before_new (n ∷ x) (m ∷ y) [] s a rs b c = cc
before_new (n ∷ x) (m ∷ y) (f ∷ r) [] a rs b c = cc
before_new (n ∷ x) (m ∷ y) (f ∷ r) (g ∷ s) a rs b c = grind (arith, same_name, before_new x y r s)

-- a longer path, by what a stack has after the shorter one
pub left-append : (p q s : Path) → is_left (p ++ q) s ≡ (is_left p s || (begins p s && is_left q (drop (length p) s)))
left-append [] q s = refl
left-append (n ∷ p) q [] = refl
left-append (n ∷ p) q (f ∷ s) = grind (arith, left-append p q s)

pub prefix-append : (p q s : Path) → begins (p ++ q) s ≡ (begins p s && begins q (drop (length p) s))
prefix-append [] q s = refl
prefix-append (n ∷ p) q [] = refl
prefix-append (n ∷ p) q (f ∷ s) = grind (arith, prefix-append p q s)

pub end-append : (p q s : Path)
    → is_left_of_end (p ++ q) s ≡ (is_left p s || (begins p s && is_left_of_end q (drop (length p) s)))
end-append p q s = grind (arith, left-append, prefix-append)

pub same-stack : (p s : Path) → is_same_stack p s ≡ (begins p s && is_same_stack [] (drop (length p) s))
same-stack [] s = refl
same-stack (n ∷ p) [] = refl
same-stack (n ∷ p) (f ∷ s) = grind (arith, turned, same-stack p s)
