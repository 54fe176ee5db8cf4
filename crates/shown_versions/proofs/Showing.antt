-- Each step keeps the rule of what is shown.
use Rattle.std.proofs.Common.{◌≡◌, ◌≢◌, ℕ, List, [], ◌∷◌, ◌++◌, fold, set, Some, None, refl, ◌∙◌, subst, ⊎_elim}
use mathlib.Core.Option.{some}
use mathlib.Core.List.{IsPrefix}
use lib.ListN.{get_elem?}
use Rattle.left_right.specs.Register.{Admits, Turns, TurnsAt, Forks, Merges}
use Rattle.atomic_table.proofs.Lists.{at_set, at_snoc}
use Rattle.shown_versions.proofs.Fronts.{prefix_self, prefix_trans}
use Rattle.shown_versions.specs.declared.known.KnownVersion.{KnownVersion}
use Rattle.shown_versions.specs.declared.version_rule.View.{View}
use Rattle.shown_versions.specs.Views.{newcomer, knower, Covers, Keeps, Shows}

covers_itself : (x : KnownVersion) → Covers x (knower x)
covers_itself x = (refl, refl, prefix_self x.seen.log)

covers_more : (x y : KnownVersion) (v : View)
    → y.seen.book ≡ x.seen.book → y.width ≡ x.width → IsPrefix x.seen.log y.seen.log → Covers x v → Covers y v
covers_more x y v book width more h = covers_known v.known h
  where
    covers_known : (o : _) → Covers x (record { known = o }) → Covers y (record { known = o })
    covers_known None h = tt
    covers_known (Some s) h = (book ∙ h.0, width ∙ h.1, prefix_trans s.seen.log x.seen.log y.seen.log h.2 more)

keeps_set : (x : KnownVersion) (views : List View) (seat : ℕ) (w : View)
    → Keeps x views → Covers x w → Keeps x (set views seat w)
keeps_set x views seat w h mine j u e =
    ⊎_elim (λ (t : (j ≡ seat) × (w ≡ u)). subst (Covers x) t.1 mine)
    (λ (t : (j ≢ seat) × (get_elem? views j ≡ some u)). h j u t.1) (at_set views seat j w u e)

keeps_snoc : (x : KnownVersion) (views : List View) (w : View) → Keeps x views → Covers x w → Keeps x (views ++ w ∷ [])
keeps_snoc x views w h new j u e = ⊎_elim (h j u) (λ (same : w ≡ u). subst (Covers x) same new) (at_snoc views w u j e)

pub admits : Admits Keeps newcomer
admits x views h = keeps_snoc x views newcomer h tt

-- the version shown becomes one with more changes, or stays
pub turns : (seat : ℕ) (v : View) (x y : KnownVersion)
    → y.seen.book ≡ x.seen.book → y.width ≡ x.width → IsPrefix x.seen.log y.seen.log → TurnsAt Keeps seat v x y Shows
turns seat v x y book width more views h at = (
  knower y,
  keeps_set y views seat (knower y) (λ j u e. covers_more x y u book width more (h j u e))
      (covers_itself y),
  (refl, covers_more x y v book width more (h seat v at)),
)

pub enters : (seat : ℕ) (v : View) → Turns Keeps seat v (λ x. x) Shows
enters seat v x = turns seat v x x refl refl (prefix_self x.seen.log)

-- the writer tells what it knows
pub forks : (seat : ℕ) (v : View) → Forks Keeps seat v v v
forks seat v x views h at = keeps_snoc x (set views seat v) v (keeps_set x views seat v h (h seat v at)) (h seat v at)

-- the writer's first version has itself
pub begins : (x : KnownVersion) → Keeps x (newcomer ∷ [])
begins x = keeps_snoc x [] newcomer (λ j u e. absurd (cc e)) tt

-- a reader takes in what the writer told
pub merges : (seat : ℕ) (v : View) (other : ℕ) (w : View) → Merges Keeps seat v other w w newcomer
merges seat v other w x views h at apart there =
    let mine : Covers x w = ⊎_elim (λ (t : (other ≡ seat) × (w ≡ w)). absurd (apart t.0))
    (λ (t : (other ≢ seat) × (get_elem? views other ≡ some w)). h other w t.1)
    (at_set views seat other w w there) in
    keeps_set x (set views seat w) other newcomer (keeps_set x views seat w h mine) tt

-- what is pending before the last version doesn't matter, since that one decides
pub last_decides : {S : Type 0} (f : KnownVersion → S) (s : S) (xs : List KnownVersion) (x : KnownVersion)
    → fold (λ _ v. f v) s (xs ++ x ∷ []) ≡ f x
last_decides f s [] x = refl
last_decides f s (y ∷ ys) x = last_decides f (f y) ys x
