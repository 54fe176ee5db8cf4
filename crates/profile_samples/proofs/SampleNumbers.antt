-- The numbers of the names in a sample's row.
use Rattle.std.proofs.lemmas.Grind.{common_steps}
use Rattle.std.proofs.Common.{arith, ◌≡◌, ℕ, ◌+◌, ◌<◌, List, [], ◌∷◌, ◌++◌, length, get_or}
use Rattle.std.proofs.Common.{take, Option, ap, ◌∙◌, All}
use Rattle.std.specs.Prelude.{MatchOption, slice_index_or}
use Rattle.std.specs.List.{AllByRecursion}
use Rattle.std.proofs.lemmas.List.Elements.{All-append, All-map, All-weaker, All-from_recursion, recursion_from_All}
use Rattle.pprof_profile.specs.declared.messages.Draft.{Draft}
use Rattle.profile_rows.specs.Names.{IsName, is_same_name}
use Rattle.profile_rows.specs.Rows.{has_name}
use Rattle.name_counts.specs.Tallies.{IsNumberedStack}
use Rattle.name_counts.specs.TextTables.{names_at}
use Rattle.name_counts.proofs.TallyLaws.{named_in}
use Rattle.profile_samples.specs.Samples.{frames_of_id, frames_of_ids, sample_stack_of}
use Rattle.profile_samples.specs.NameNumbers.{frame_names, once_of}
use Rattle.profile_samples.specs.CountedSamples.{AreNumbersOfIds}
use Rattle.profile_samples.proofs.FrameNumbers.{AreNumbersOf, frames-more}
use Rattle.std.proofs.lemmas.List.Sorted.{IsPermutation-reverse, list_any-IsPermutation}
use Rattle.profile_samples.proofs.ExportLaws.{each_where}

-- ---- locations, one after the other

-- one location more
pub numbers_more : (draft : Draft) (ids : List ℕ) (i : ℕ) (numbers before lent after : List ℕ)
    → i < length ids → lent ≡ once_of numbers
    → AreNumbersOf (frame_names draft) (frames_of_id draft (get_or ids i 0)) numbers
    → AreNumbersOfIds draft (take i ids) before
    → after ≡ before ++ lent → AreNumbersOfIds draft (take (i + 1) ids) after
numbers_more draft ids i numbers before lent after lt lent_is this so_far more =
    let names = frame_names draft in
    let is : after ≡ before ++ once_of numbers = more ∙ ap (λ ns. before ++ ns) lent_is in
    record {
      inside = rw is (All-append (λ number. number < length names) before (once_of numbers) so_far.inside this.inside);
      same = λ q. grind (arith, common_steps, frames-more, so_far.same q, this.same q);
    }

-- a location without frames
pub numbers_missing : (draft : Draft) (ids : List ℕ) (i : ℕ) (before after : List ℕ)
    → i < length ids → frames_of_id draft (get_or ids i 0) ≡ []
    → AreNumbersOfIds draft (take i ids) before → after ≡ before → AreNumbersOfIds draft (take (i + 1) ids) after
numbers_missing draft ids i before after lt none so_far same = rw same (record {
  inside = so_far.inside;
  same = λ q. grind (arith, common_steps, frames-more, so_far.same q);
})

-- ---- the names of stacks are names

-- the names of numbers are names
names_named : (names : List (List ℕ)) (numbers : List ℕ) → All IsName names
    → All (λ number. number < length names) numbers → AllByRecursion IsName (names_at names numbers)
names_named names numbers all inside = recursion_from_All IsName (names_at names numbers)
    (All-map IsName (λ number. slice_index_or names number []) numbers
    (All-weaker (λ number. number < length names) _ (λ number. all number []) numbers inside))

-- ---- a sample's row

pub sample_numbered : (draft : Draft) (ids numbers lent : List ℕ) (leaf : Option ℕ) → lent ≡ numbers
    → All IsName (frame_names draft) → AreNumbersOfIds draft ids numbers
    → MatchOption leaf
    (sample_stack_of draft ids ≡ []) (λ number. (number < length (frame_names draft)) × (callers : List (List ℕ))
    × (sample_stack_of draft ids ≡ callers ++ slice_index_or (frame_names draft) number [] ∷ []))
    → IsNumberedStack (frame_names draft) (sample_stack_of draft ids) lent leaf
sample_numbered draft ids numbers lent leaf lent_is names are last = rw lent_is (record {
  named = All-from_recursion IsName (sample_stack_of draft ids) (each_where IsName (sample_stack_of draft ids)
      (λ q e. named_in q (names_at (frame_names draft) numbers)
      (names_named (frame_names draft) numbers names are.inside) (same q ∙ e)));
  inside = are.inside;
  same = same;
  last = last;
})
  where
    same : (q : List ℕ)
        → has_name q (names_at (frame_names draft) numbers) ≡ has_name q (sample_stack_of draft ids)
    same q = are.same q ∙ list_any-IsPermutation (is_same_name q) (frames_of_ids draft ids)
        (sample_stack_of draft ids) (IsPermutation-reverse (frames_of_ids draft ids))
