-- Lists of location ids stay as they are where others come.
use Rattle.std.proofs.Math.Seq.{get_or-append_seam}
use Rattle.std.specs.Prelude.{MatchResult}
use Rattle.std.specs.declared.alloc.AllocError.{AllocError}
use Rattle.std.proofs.Common.{Err, Ok, Result, ◌++◌, ◌∷◌}
use Rattle.std.proofs.Common.{arith, ℕ, List, [], ◌≡◌, ◌<◌, ◌∙◌, All, ap, get_or, length, map, sym}
use Rattle.std.proofs.lemmas.List.{append-nil, length-append, length-map}
use Rattle.std.proofs.lemmas.List.{get_or-map, get_or_append_left}
use Rattle.std.proofs.lemmas.List.Elements.{All-weaker}
use Rattle.basics.specs.Spans.{Grows, items_at}
use Rattle.basics.proofs.Growing.{items_grown, map_agreeing, within_grown}
use Rattle.pprof_profile.specs.declared.location_lists.ListSpans.{ListSpans}
use Rattle.pprof_profile.specs.LocationLists.{HasNumber, IsSpelledList, IsSpelling, ids_of, list_at}

listed_grown : (ids more_ids bytes more_bytes : List ℕ) → Grows ids more_ids → Grows bytes more_bytes
    → (spans : ListSpans) → IsSpelledList ids bytes spans → IsSpelledList more_ids more_bytes spans
listed_grown ids more_ids bytes more_bytes i b spans h =
    let same_ids = items_grown ids more_ids spans.ids i h.ids_are in
    let same_bytes = items_grown bytes more_bytes spans.spelling b h.bytes_are in
    record {
      ids_are = within_grown ids more_ids spans.ids i h.ids_are;
      bytes_are = within_grown bytes more_bytes spans.spelling b h.bytes_are;
      spelled = rw (same_ids, same_bytes) h.spelled;
    }

pub all_listed_grown : (ids more_ids bytes more_bytes : List ℕ) → Grows ids more_ids → Grows bytes more_bytes
    → (lists : List ListSpans) → All (IsSpelledList ids bytes) lists → All (IsSpelledList more_ids more_bytes) lists
all_listed_grown ids more_ids bytes more_bytes i b lists h =
    All-weaker (IsSpelledList ids bytes) (IsSpelledList more_ids more_bytes)
    (listed_grown ids more_ids bytes more_bytes i b) lists h

pub lists_grown : (ids more_ids bytes : List ℕ) → Grows ids more_ids
    → (lists : List ListSpans) → All (IsSpelledList ids bytes) lists
    → map (ids_of more_ids) lists ≡ map (ids_of ids) lists
lists_grown ids more_ids bytes i lists h = grind (arith, All-weaker, items_grown, map_agreeing)

-- the list of a number stays
pub list_grown : (lists more : List (List ℕ)) (number : ℕ) → Grows lists more → number < length lists
    → list_at more number ≡ list_at lists number
list_grown lists more number (others, is) lt =
    ap (λ all. list_at all number) is ∙ get_or_append_left lists others [] number lt

-- what is spelled as a list is that list
pub spelled_so : (ids bytes : List ℕ) (lists : List ListSpans) (number : ℕ) (spans : ListSpans) (spelling : List ℕ)
    → All (IsSpelledList ids bytes) lists → number < length lists → spans ≡ get_or lists number spans
    → items_at bytes spans.spelling ≡ spelling → 0 < length spelling
    → (number < length (map (ids_of ids) lists)) × IsSpelling spelling (list_at (map (ids_of ids) lists) number)
spelled_so ids bytes lists number spans spelling all lt is same some =
    let listed : IsSpelledList ids bytes spans = rw is (all number spans lt) in
    let list : list_at (map (ids_of ids) lists) number ≡ ids_of ids spans =
    get_or-map (ids_of ids) lists number spans [] lt ∙ ap (ids_of ids) (sym is) in
    (omega (arith, lt, length-map lists (ids_of ids)), rw list (rw same at (listed.spelled (rw same some))))

-- a list that is added has the number of how many were before it
pub pushed_number : (old new : List (List ℕ)) (ids : List ℕ) (result : Result ℕ AllocError)
    → MatchResult result (λ number. (number ≡ length old) × (new ≡ old ++ ids ∷ [])) (λ fault. new ≡ old)
    → HasNumber old new ids result
pushed_number old new ids (Ok number) (at, is) = record {
  kept = (ids ∷ [], is);
  list = rw (at, is) (
    omega (arith, length-append old (ids ∷ [])),
    get_or-append_seam old ids [] [],
  );
}
pushed_number old new ids (Err fault) same = record { kept = ([], same ∙ sym (append-nil old)); list = tt }
