-- What a session knows lasts, and grows by each step.
use Rattle.std.proofs.Common.{◌≡◌, ℕ, zero, suc, ◌+◌, ◌*◌, ◌==◌, ◌<◌, ◌≤◌, ◌⊎◌, inl, inr, Bool, true, false, List, []}
use Rattle.std.proofs.Common.{◌∷◌, ◌++◌, length, take, map, get_or, slice_get, Option, Some, None, All, AllPairs, refl}
use Rattle.std.proofs.Common.{sym, ap, ◌∙◌, subst, arith, length-append}
use Rattle.std.specs.Prelude.{MatchBool, MatchResult, IsSomeAnd, Result, Ok, Err}
use Rattle.std.specs.List.{filter}
use Rattle.std.proofs.lemmas.List.{map-append, append-nil, length-map, take_all}
use Rattle.std.proofs.lemmas.List.Elements.{All-weaker, All-push, All-nil, filter-append}
use Rattle.std.proofs.lemmas.List.Quantifiers.{all_pairs_push}
use Rattle.std.proofs.lemmas.List.Sums.{length-filter}
use Rattle.std.proofs.lemmas.Bool.Decides.{nat_tests}
use mathlib.Core.List.{IsPrefix}
use Rattle.shown_versions.proofs.Fronts.{prefix_trans, prefix_whole, prefix_length, prefix_get}
use Rattle.op_book.specs.Books.{BookState, IsFirstBookFault, change_told, entry_after, receipt_after}
use Rattle.op_book.specs.Changes.{change_op}
use Rattle.op_book.specs.Receipts.{HasEntry, Precedes, key_of}
use Rattle.op_book.specs.Operations.{PlainEntry, PlainOp, PlainReceipt, ask, is_change, operations_of, plain_answer}
use Rattle.op_book.specs.Runs.{turns_of}
use Rattle.op_book.specs.declared.book.changing.Change.{Change}
use Rattle.op_book.specs.declared.book.changing.Change.TheVariants as change
use Rattle.op_book.specs.declared.fault.BookFault.{BookFault}
use Rattle.op_book.specs.declared.fault.BookFault.TheVariants as book
use Rattle.flame_report.specs.declared.query.Query.{Query}
use Rattle.live_store.specs.Changes.{HasChanged, HasMade, IsRefused}
use Rattle.live_store.specs.Sessions.{IsBorneOut, IsPlaced, IsSound, changes_by, changes_of}
use Rattle.live_store.specs.Stores.{IsShownBy, SessionState, ShowsCause, changes_told}

pub prefix_map : {A B : Type 0} (f : A → B) (xs ys : List A) → IsPrefix xs ys → IsPrefix (map f xs) (map f ys)
prefix_map f xs ys p = (map f p.0, sym (map-append f xs p.0) ∙ ap (map f) p.1)

pub prefix_filter : {A : Type 0} (f : A → Bool) (xs ys : List A) → IsPrefix xs ys → IsPrefix (filter f xs) (filter f ys)
prefix_filter f xs ys p = (filter f p.0, sym (filter-append f xs p.0) ∙ ap (filter f) p.1)

-- the front of a longer list
pub prefix_take : {A : Type 0} (xs ys : List A) (k : ℕ) → IsPrefix xs ys → k ≤ length xs → take k ys ≡ take k xs
prefix_take xs ys zero p le = refl
prefix_take [] ys (suc k) p le = absurd (omega arith)
prefix_take (x ∷ xs) [] (suc k) p le = absurd (cc (p.1))
prefix_take (x ∷ xs) (y ∷ ys) (suc k) p le =
    let rest = prefix_take xs ys k (p.0, cc (p.1)) (omega arith) in
    let head : x ≡ y = cc (p.1) in cc (rest, head)

-- an entry that is known stays
abbrev IsTold : ℕ → PlainReceipt → Option PlainEntry → Type 0
IsTold n r o = IsSomeAnd o (λ (entry : PlainEntry). (entry.session ≡ n) × (entry.op ≡ r.op) × (entry.reply ≡ r.reply))

has_more : (n : ℕ) (seen more : List PlainEntry) (r : PlainReceipt)
    → IsPrefix seen more → HasEntry seen n r → HasEntry more n r
has_more n seen more r p h = by (slice_get seen r.at) refl h
  where
    by : (o : Option PlainEntry) → slice_get seen r.at ≡ o → IsTold n r o → IsTold n r (slice_get more r.at)
    by None is facts = absurd facts
    by (Some e) is facts = subst (IsTold n r) (sym (prefix_get seen more r.at e p is)) facts

is_sound_more : (n : ℕ) (seen more : List PlainEntry) (r : PlainReceipt)
    → IsPrefix seen more → IsSound n seen r → IsSound n more r
is_sound_more n seen more r p = by (is_change r.op)
  where
    by : (b : Bool) → MatchBool b
        (HasEntry seen n r) ((r.at ≤ length seen) × (r.reply ≡ plain_answer (operations_of (take r.at seen)) r.op))
        → MatchBool b
        (HasEntry more n r) ((r.at ≤ length more) × (r.reply ≡ plain_answer (operations_of (take r.at more)) r.op))
    by true h = has_more n seen more r p h
    by false h = (
      omega (arith, prefix_length seen more p, h.0),
      h.1
          ∙ ap (λ l. plain_answer (operations_of l) r.op) (sym (prefix_take seen more r.at p h.0)),
    )

pub borne_more : (n : ℕ) (log : List PlainReceipt) (seen more : List PlainEntry)
    → IsPrefix seen more → IsBorneOut n log seen → IsBorneOut n log more
borne_more n log seen more p h = record {
  own = prefix_trans (changes_of log) (changes_by n seen) (changes_by n more) h.own
      (prefix_map (λ (e : PlainEntry). e.op) (filter (λ (e : PlainEntry). e.session == n) seen) (filter
      (λ (e : PlainEntry). e.session == n) more) (prefix_filter (λ (e : PlainEntry). e.session == n) seen more p));
  each = All-weaker (IsSound n seen) (IsSound n more) (λ r. is_sound_more n seen more r p) log h.each;
  rise = h.rise;
  below = All-weaker (λ (r : PlainReceipt). key_of r ≤ 2 * length seen) (λ (r : PlainReceipt).
      key_of r ≤ 2 * length more) (λ r k. omega (arith, prefix_length seen more p, k)) log h.below;
}

pub borne_fresh : (n : ℕ) (seen : List PlainEntry) → IsBorneOut n [] seen
borne_fresh n seen = record {
  own = (changes_by n seen, refl);
  each = All-nil (IsSound n seen);
  rise = λ i j d lt within. absurd (omega (arith, within));
  below = All-nil (λ (r : PlainReceipt). key_of r ≤ 2 * length seen);
}

rise_more : (log : List PlainReceipt) (r : PlainReceipt) (top : ℕ)
    → AllPairs Precedes log → All (λ (x : PlainReceipt). key_of x ≤ top) log
    → ((x : PlainReceipt) → key_of x ≤ top → Precedes x r) → AllPairs Precedes (log ++ r ∷ [])
rise_more log r top rise below next =
    all_pairs_push Precedes log r rise (λ k d lt. next (get_or log k d) (below k d lt))

-- the changes of a log with one receipt more
pub changes_of-ask : (log : List PlainReceipt) (r : PlainReceipt)
    → is_change r.op ≡ false → changes_of (log ++ r ∷ []) ≡ changes_of log
changes_of-ask log r asks =
    ap (filter is_change) (map-append (λ (x : PlainReceipt). x.op) log (r ∷ []))
    ∙ filter-append is_change (map (λ (x : PlainReceipt). x.op) log) (r.op ∷ [])
    ∙ rw asks (append-nil (changes_of log))

pub changes_of-change : (log : List PlainReceipt) (r : PlainReceipt)
    → is_change r.op ≡ true → changes_of (log ++ r ∷ []) ≡ changes_of log ++ r.op ∷ []
changes_of-change log r changes =
    ap (filter is_change) (map-append (λ (x : PlainReceipt). x.op) log (r ∷ []))
    ∙ filter-append is_change (map (λ (x : PlainReceipt). x.op) log) (r.op ∷ [])
    ∙ rw changes refl

pub changes_by-mine : (n : ℕ) (seen : List PlainEntry) (e : PlainEntry)
    → e.session ≡ n → changes_by n (seen ++ e ∷ []) ≡ changes_by n seen ++ e.op ∷ []
changes_by-mine n seen e mine =
    let passes : (e.session == n) ≡ true = grind (arith, nat_tests) in
    ap (map (λ (x : PlainEntry). x.op))
    (filter-append (λ (x : PlainEntry). x.session == n) seen (e ∷ []) ∙ rw passes refl)
    ∙ map-append (λ (x : PlainEntry). x.op) (filter (λ (x : PlainEntry). x.session == n) seen) (e ∷ [])

-- a report was made of all that is known
pub borne_asked : (n : ℕ) (log : List PlainReceipt) (seen : List PlainEntry) (query : Query)
    → IsBorneOut n log seen → IsBorneOut n (log ++ receipt_after seen (ask query) ∷ []) seen
borne_asked n log seen query h =
    let r = receipt_after seen (ask query) in record {
      own = subst (λ s. IsPrefix s (changes_by n seen)) (sym (changes_of-ask log r refl)) h.own;
      each = All-push (IsSound n seen) log r h.each (
        omega arith,
        ap (λ l. plain_answer (operations_of l) (ask query)) (sym (take_all (length seen) seen (omega arith))),
      );
      rise = rise_more log r (2 * length seen) h.rise h.below (λ x le. by x (key_of x) refl le);
      below = All-push (λ (x : PlainReceipt). key_of x ≤ 2 * length seen) log r h.below (omega arith);
    }
  where
    by : (x : PlainReceipt) (k : ℕ) → key_of x ≡ k → k ≤ 2 * length seen → Precedes x (receipt_after seen (ask query))
    by x k is le = elim (cases x (key_of x) (omega (arith, is, le))) [
      | inl less ↦ inl less
      | inr same ↦ inr (same, refl)
    ]
      where
        cases : (x : PlainReceipt) (k : ℕ) → k ≤ 2 * length seen → (k < 2 * length seen) ⊎ (k ≡ 2 * length seen)
        cases x k le = grind arith

at_end : (xs : List PlainEntry) (x : PlainEntry) → slice_get (xs ++ x ∷ []) (length xs) ≡ Some x
at_end [] x = refl
at_end (y ∷ xs) x = at_end xs x

-- a change of this session was placed after all that is known, in its turn
pub borne_changed : (n turn place : ℕ) (op : PlainOp) (log : List PlainReceipt) (seen new : List PlainEntry)
    → is_change op ≡ true → turn ≡ changes_told log → IsPlaced seen n turn op place new → IsBorneOut n log seen
    → IsBorneOut n (log ++ change_told op place ∷ []) new
    × (changes_by n new ≡ changes_of (log ++ change_told op place ∷ []))
borne_changed n turn place op log seen new changes turn_is is h =
    let all = is.before in
    let e = entry_after all n turn op in
    let r = change_told op place in
    let here = borne_more n log seen all is.begins h in
    let more = borne_more n log all (all ++ e ∷ []) (e ∷ [], refl) here in
    let sent : length (changes_of log) ≡ changes_told log =
    length-filter is_change (map (λ (x : PlainReceipt). x.op) log) in
    let mine : length (filter (λ (x : PlainEntry). x.session == n) all) ≡ turns_of all n =
    length-filter (λ (x : PlainEntry). x.session == n) all in
    let by : length (changes_by n all) ≡ turns_of all n =
    length-map (filter (λ (x : PlainEntry). x.session == n) all) (λ (x : PlainEntry). x.op) ∙ mine in
    let turn_of = is.turn_is in
    let whole : changes_of log ≡ changes_by n all =
    prefix_whole (changes_of log) (changes_by n all) here.own (omega (arith, sent, by, turn_is, turn_of)) in
    let equal : changes_by n (all ++ e ∷ []) ≡ changes_of (log ++ r ∷ []) = changes_by-mine n all e refl
    ∙ (ap (λ l. l ++ op ∷ []) (sym whole) ∙ sym (changes_of-change log r changes)) in
    let place_is = is.place_is in
    let key : key_of r ≡ 2 * length all + 1 = rw changes (ap (λ x. 2 * x + 1) place_is) in
    let long : length (all ++ e ∷ []) ≡ length all + 1 = omega (arith, length-append all (e ∷ [])) in
    let entry : HasEntry (all ++ e ∷ []) n r =
    subst (IsTold n r) (sym (ap (slice_get (all ++ e ∷ [])) place_is ∙ at_end all e)) (refl, refl, is.reply_is) in
    rw is.seen_is (
      record {
        own = ([], append-nil (changes_of (log ++ r ∷ [])) ∙ sym equal);
        each = All-push (IsSound n (all ++ e ∷ [])) log r more.each (rw changes entry);
        rise = rise_more log r (2 * length all) h.rise here.below (λ x le. inl (omega (arith, le, key)));
        below = All-push
            (λ (x : PlainReceipt). key_of x ≤ 2 * length (all ++ e ∷ [])) log r more.below (omega (arith, key, long));
      },
      equal,
    )

-- ---- a change that was placed or refused

pub is_change-change_op : (asked : Change) → is_change (change_op asked) ≡ true
is_change-change_op (change.Add batch) = refl
is_change-change_op change.Reset = refl

-- once a session made a change or was refused one, it has its number, and the changes that it knows of bear out its log
pub borne_either : {P : Type 0} (result : Result P BookFault) (place : P → ℕ) (told : P → List PlainEntry)
    (limit sessions width : ℕ) (before after : SessionState) (op : PlainOp) → is_change op ≡ true
    → MatchResult result (λ p. HasChanged before op (place p) (told p) after)
    (IsRefused limit sessions width before op after) → IsBorneOut before.number before.log before.seen
    → (after.number ≡ before.number) × IsBorneOut after.number after.log after.seen
    × MatchResult result (λ p. HasMade before op (place p) (told p) after)
    (IsRefused limit sessions width before op after)
borne_either (Ok p) place told limit sessions width before after op changes did h =
    let both : IsBorneOut after.number after.log after.seen
    × (changes_by after.number after.seen ≡ changes_of after.log) =
    rw (did.number, did.log) (borne_changed before.number
    (changes_told before.log) (place p) op before.log before.seen after.seen changes refl did.placed h) in
    (did.number, both.0, record { changed = did; own = both.1 })
borne_either (Err f) place told limit sessions width before after op changes did h =
    (did.number, rw (did.number, did.log) (borne_more before.number before.log before.seen after.seen did.seen h), did)

-- what is known here begins with what was known before
pub caught_up : (old here own : List PlainEntry) → (here ≡ own) × IsPrefix old own → IsPrefix old here
caught_up old here own caught = subst (λ (l : List PlainEntry). IsPrefix old l) (sym caught.0) caught.1

-- a change after what is known stands after what was known before
pub changed_since : (before after : SessionState) (old : List PlainEntry) (op : PlainOp) (place : ℕ)
    (told : List PlainEntry) → IsPrefix old before.seen → HasChanged before op place told after
    → HasChanged (record { number = before.number; log = before.log; seen = old }) op place told after
changed_since before after old op place told begins did = record {
  number = did.number;
  seen = prefix_trans old before.seen after.seen begins did.seen;
  placed = let was = did.placed in record {
    before = was.before;
    begins = prefix_trans old before.seen was.before begins was.begins;
    turn_is = was.turn_is;
    place_is = was.place_is;
    reply_is = was.reply_is;
    seen_is = was.seen_is;
  };
  told_is = did.told_is;
  log = did.log;
}

-- who knows the changes of a book knows the cause of its refusal
shown_first : (state : BookState) (seen : List PlainEntry) (session turn : ℕ) (op : PlainOp) → seen ≡ state.entries
    → (fault : BookFault) → IsFirstBookFault state session turn op fault → IsShownBy seen session fault
shown_first state seen session turn op same book.Session first = tt
shown_first state seen session turn op same (book.Turn held) first = rw same first.1
shown_first state seen session turn op same (book.Full held) first = rw same first.2
shown_first state seen session turn op same (book.Width held) first = tt
shown_first state seen session turn op same (book.Heavy value held) first = let heavy = first.1 in rw same heavy.held_is
shown_first state seen session turn op same book.NoMemory first = tt
shown_first state seen session turn op same book.Version first = tt

-- what the first fault of a book tells of its cause
cause_first : (state : BookState) (session turn : ℕ) (op : PlainOp) → session < state.sessions
    → length state.entries ≤ state.limit → is_change op ≡ true
    → (fault : BookFault) → IsFirstBookFault state session turn op fault
    → ShowsCause state.limit state.width turn op fault
cause_first state session turn op known few changes book.Session first = absurd (omega (arith, first, known))
cause_first state session turn op known few changes (book.Turn held) first = (changes, λ same. first.2 (sym same))
cause_first state session turn op known few changes (book.Full held) first =
    (changes, omega (arith, first.2, first.3, few))
cause_first state session turn op known few changes (book.Width held) first = (first.1, first.2)
cause_first state session turn op known few changes (book.Heavy value held) first =
    let heavy = first.1 in (heavy.within, heavy.light, heavy.heavy)
cause_first state session turn op known few changes book.NoMemory first = tt
cause_first state session turn op known few changes book.Version first = tt

-- a session that knows all changes of a book is refused by its first fault
pub refused_first : (state : BookState) (limit sessions width number turn : ℕ) (before after : SessionState)
    (op : PlainOp) → state.limit ≡ limit → state.sessions ≡ sessions → state.width ≡ width
    → number ≡ before.number → turn ≡ changes_told before.log
    → before.number < sessions → length state.entries ≤ state.limit → is_change op ≡ true
    → after.number ≡ before.number → IsPrefix before.seen after.seen → after.log ≡ before.log
    → after.seen ≡ state.entries
    → (fault : BookFault) → IsFirstBookFault state number turn op fault
    → IsRefused limit sessions width before op after fault
refused_first state limit sessions width number turn before after op limit_is sessions_are width_is mine taken known few
    changes same_number seen log same fault told =
    let first : IsFirstBookFault state before.number (changes_told before.log) op fault =
    rw (← mine, ← taken) told in
    rw (← limit_is, ← sessions_are, ← width_is) (record {
      number = same_number;
      seen = seen;
      log = log;
      cause = cause_first state before.number (changes_told before.log) op (rw sessions_are known) few changes fault
          first;
      shown = shown_first state after.seen before.number (changes_told before.log) op same fault first;
      first = inr (record {
        book = state;
        entries_are = sym same;
        limit_is = refl;
        sessions_are = refl;
        width_is = refl;
        first = first;
      });
    })
