-- What is asked of the kinds of fields.
use Rattle.std.proofs.lemmas.Grind.{common_steps}
use Rattle.std.proofs.Common.{arith, ◌≡◌, ℕ, ◌<◌, ◌^◌, List, [], ◌∷◌, ◌++◌, length, map, refl, ap, subst, w64}
use Rattle.std.proofs.Common.{FitsSigned}
use Rattle.std.specs.Str.{IsUtf8}
use Rattle.pprof_wire.specs.Fields.{content}
use Rattle.pprof_profile.specs.Forms.{Form, empty_of, table_of, bytes_of, Fits, number_kind, numbers_kind}
use Rattle.pprof_profile.specs.Forms.{IsMadeOf, unsigned, signed, flag, unsigneds, signeds, texts, each, one}
use Rattle.pprof_profile.specs.Forms.{unsigned_of}
use Rattle.pprof_profile.specs.Forms.{signed_of, flag_of}
use Rattle.pprof_profile.specs.Reading.{Reads, Spells}
use Rattle.pprof_profile.specs.Writing.{number_of_unsigned, number_of_signed, number_of_flag, FitsUnsigned}
use Rattle.pprof_profile.specs.Writing.{each_field}
use Rattle.pprof_profile.proofs.AllValues.{is_last, last_back, are_all_numbers, all_numbers_back, are_all_texts}
use Rattle.pprof_profile.proofs.AllValues.{all_texts_back, are_all_messages, all_messages_back, is_one_message}
use Rattle.pprof_profile.proofs.AllValues.{one_message_back}
use Rattle.pprof_profile.proofs.Forms.{LawfulKind, LawfulForm, form_once, form_made, form_gathered, form_back}
use Rattle.pprof_profile.proofs.Once.{ok_once, sets_once, numbers_once, text_once, message_once, merge_once}
use Rattle.pprof_profile.proofs.Once.{reads_once}
use Rattle.pprof_profile.proofs.ReadBack.{Piece, number_piece, content_piece, each_piece, signed_back, signed_below}
use Rattle.pprof_profile.proofs.ReadBack.{flag_back}
use Rattle.pprof_profile.proofs.ReadBack.{flag_below, unpacked_back, none_unpacked}

number_lawful : {A : Type 0} (from : ℕ → A) (to : A → ℕ) (Good : A → Type 0)
    → ((item : A) → Good item → to item < 2 ^ 64) → ((item : A) → Good item → item ≡ from (to item))
    → LawfulKind (number_kind from to Good)
number_lawful from to Good below back = grind (arith, common_steps, is_last, last_back, sets_once, number_piece)

pub unsigned_lawful : LawfulKind unsigned
unsigned_lawful = number_lawful unsigned_of number_of_unsigned FitsUnsigned (λ item fits. fits) (λ item fits. refl)

pub signed_lawful : LawfulKind signed
signed_lawful = number_lawful signed_of number_of_signed (FitsSigned w64) signed_below signed_back

pub flag_lawful : LawfulKind flag
flag_lawful = number_lawful flag_of number_of_flag _ (λ item fits. flag_below item) (λ item fits. flag_back item)

numbers_lawful : {A : Type 0} (from : ℕ → A) (to : A → ℕ) (Good : A → Type 0)
    → ((item : A) → Good item → to item < 2 ^ 64) → ((item : A) → Good item → item ≡ from (to item))
    → LawfulKind (numbers_kind from to Good)
numbers_lawful from to Good below back =
    grind (arith, are_all_numbers, all_numbers_back, numbers_once, content_piece, unpacked_back, none_unpacked)

pub unsigneds_lawful : LawfulKind unsigneds
unsigneds_lawful = numbers_lawful unsigned_of number_of_unsigned FitsUnsigned (λ item fits. fits) (λ item fits. refl)

pub signeds_lawful : LawfulKind signeds
signeds_lawful = numbers_lawful signed_of number_of_signed (FitsSigned w64) signed_below signed_back

same_texts : (texts : List (List ℕ)) → map (λ (text : List ℕ). text) texts ≡ texts
same_texts [] = refl
same_texts (text ∷ texts) = ap (λ (xs : List (List ℕ)). text ∷ xs) (same_texts texts)

pub texts_lawful : LawfulKind texts
texts_lawful =
    record {
      once = text_once;
      made = λ values items. (are_all_texts values items, all_texts_back values items);
      piece = λ table with number numbered step items fits.
          subst (λ contents. Piece table (with []) (each_field number contents) (with items)) (same_texts items)
          (each_piece table with (λ text. IsUtf8 text × (length text < 2 ^ 64)) number (λ text. text) numbered
          (λ before text good. step before (before ++ text ∷ []) (content text) (good.0, refl))
          (λ text good. good.1) [] items fits);
    }

pub each_lawful : {M : Type 0} (form : Form M) → LawfulForm form → LawfulKind (each form)
each_lawful form lawful =
    let table = table_of form in
    let empty = empty_of form in
    record {
      once = message_once table (form_once form lawful) empty;
      made = λ values items. (
        are_all_messages table empty (IsMadeOf form) (form_made form lawful) values items,
        all_messages_back table empty (IsMadeOf form) (form_gathered form lawful) values items,
      );
      piece = λ table with number numbered step items fits.
          each_piece table with (λ item. Fits form item × (length (bytes_of form item) < 2 ^ 64)) number (bytes_of form)
          numbered
          (λ before item good. step before (before ++ item ∷ []) (content (bytes_of form item))
          (record { item = item; spelled = form_back form lawful item good.0; appended = refl }))
          (λ item good. good.1) [] items fits;
    }

empty_alone : {M : Type 0} (form : Form M) → LawfulForm form → (item : M) → Fits form item → bytes_of form item ≡ []
    → item ≡ empty_of form
empty_alone {M = M} form lawful item fits empty =
    ok_once (Reads (table_of form) (empty_of form) [])
    (reads_once (table_of form) (form_once form lawful) (empty_of form) []) item (empty_of form)
    (subst (λ (bytes : List ℕ). Spells (table_of form) (empty_of form) bytes item) empty
    (form_back form lawful item fits))
    (record { fields = []; listed = refl; gathered = refl })

pub one_lawful : {M : Type 0} (form : Form M) → LawfulForm form → LawfulKind (one form)
one_lawful form lawful =
    let table = table_of form in
    let empty = empty_of form in
    record {
      once = merge_once table (form_once form lawful);
      made = λ values item. (
        is_one_message table empty (IsMadeOf form) (form_made form lawful) values item,
        one_message_back table empty (IsMadeOf form) (form_gathered form lawful) values item,
      );
      piece = λ table with number numbered step item fits.
          content_piece table (with (empty_of form)) (with item) number (bytes_of form item) numbered fits.1
          (step (empty_of form) item _ (form_back form lawful item fits.0))
          (λ none. ap with (empty_alone form lawful item fits.0 none));
    }
