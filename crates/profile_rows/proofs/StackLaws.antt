-- Stacks are in a total order, and those that tie are the same.
use Rattle.std.proofs.Common.{◌≡◌, true, List, ap, ℕ}
use Rattle.std.specs.declared.cmp.Ordering.{Ordering}
use Rattle.std.specs.declared.cmp.Ordering.TheVariants.{Less, Equal, Greater}
use Rattle.std.specs.Ordering.{is_eq}
use Rattle.std.specs.Cmp.{IsTotalOrder}
use Rattle.std.specs.FinMap.{IsAntisymmetric, slice_cmp-IsAntisymmetric, nat_cmp-IsAntisymmetric}
use Rattle.std.proofs.Common.{refl}
use Rattle.std.proofs.lemmas.Cmp.{nat_list_cmp_total, lists_total, tied_itself}
use Rattle.profile_rows.specs.Rows.{stack_cmp, is_same_stack}

pub stack_cmp_total : IsTotalOrder stack_cmp
stack_cmp_total = lists_total nat_list_cmp_total

pub stack_cmp_apart : IsAntisymmetric stack_cmp
stack_cmp_apart = slice_cmp-IsAntisymmetric (slice_cmp-IsAntisymmetric nat_cmp-IsAntisymmetric)

pub is_equal : (o : Ordering) → is_eq o ≡ true → o ≡ Equal
is_equal Less e = cc
is_equal Equal e = refl
is_equal Greater e = cc

pub same_from_is_same_stack : (a b : List (List ℕ)) → is_same_stack a b ≡ true → a ≡ b
same_from_is_same_stack a b e = stack_cmp_apart a b (is_equal _ e)

pub is_same_stack-self : (a : List (List ℕ)) → is_same_stack a a ≡ true
is_same_stack-self a = ap is_eq (tied_itself stack_cmp_total a)
