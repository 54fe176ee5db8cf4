-- Rows are dealt in turn.
use Prim.Native.Nat.{suc}
use Rattle.std.proofs.lemmas.Grind.{common_steps}
use Rattle.std.proofs.Common.{ℕ, ◌≡◌, ◌≢◌, ◌<◌, ◌+◌, ◌-◌, ◌%◌, ◌⊎◌, inl, inr, List, [], ◌∷◌, ◌++◌, length, get_or, set}
use Rattle.std.proofs.Common.{map}
use Rattle.std.proofs.Common.{ap, sym, ◌∙◌, arith}
use Rattle.std.proofs.Math.Nat.{mod-eq_of_lt, mod_self}
use Rattle.std.proofs.lemmas.Bool.{cases_eq, cases_lt}
use Rattle.std.proofs.lemmas.Grind.{get_or-set_at}
use Rattle.std.proofs.lemmas.List.{append-nil, append_assoc, get_or-set_other}
use Rattle.profile_rows.specs.Values.{Row}
use Rattle.op_book.specs.Operations.{PlainOp}
use Rattle.live_report.specs.Dealing.{addition, turns_of}

-- when the next row goes to the worker `next`, so many rows come before the next one of a worker
abbrev pub IsTurn : ℕ → ℕ → ℕ → ℕ → Type 0
IsTurn workers next before worker =
    (before < workers) × (worker < workers) × ((next + before ≡ worker) ⊎ (next + before ≡ worker + workers))

-- with its rows among those that are left each worker's list is whole
abbrev pub AreTurns : ℕ → ℕ → ℕ → List (List PlainOp) → List Row → (ℕ → List PlainOp) → Type 0
AreTurns width workers next lists rows whole = (worker before : ℕ) → IsTurn workers next before worker
    → get_or lists worker [] ++ map (addition width) (turns_of workers before rows) ≡ whole worker

-- the next worker, when a row is dealt
next_turn : (workers next : ℕ) → next < workers → ((next + 1 < workers) × ((next + 1) % workers ≡ next + 1))
    ⊎ ((next + 1 ≡ workers) × ((next + 1) % workers ≡ 0))
next_turn workers next lt = elim (cases_lt (next + 1) workers) [
  | inl more ↦ inl (more, mod-eq_of_lt more)
  | inr last ↦ let all : next + 1 ≡ workers = omega (arith, lt, last) in
      inr (all, ap (λ n. n % workers) all ∙ mod_self workers)
]

-- the worker who was dealt a row waits for all others
dealt_last : (workers next before worker : ℕ) → next < workers → worker ≡ next
    → IsTurn workers ((next + 1) % workers) before worker → before ≡ workers - 1
dealt_last workers next before worker lt same turn = grind (arith, common_steps, next_turn)

-- any other worker waited for one row more
waited_more : (workers next before worker : ℕ) → next < workers → worker ≢ next
    → IsTurn workers ((next + 1) % workers) before worker → IsTurn workers next (suc before) worker
waited_more workers next before worker lt other turn = grind (arith, common_steps, next_turn)

-- a row more is dealt
pub turns-more : (width workers next : ℕ) (lists : List (List PlainOp)) (old : List PlainOp) (row : Row)
    (rest : List Row) (whole : ℕ → List PlainOp) → workers ≡ length lists → next < workers
    → get_or lists next [] ≡ old → AreTurns width workers next lists (row ∷ rest) whole
    → AreTurns width workers ((next + 1) % workers) (set lists next (old ++ addition width row ∷ [])) rest whole
turns-more width workers next lists old row rest whole size lt is turns worker before turn =
    let later = map (addition width) (turns_of workers before rest) in
    let longer = old ++ addition width row ∷ [] in
    elim (cases_eq worker next) [
      | inl same ↦
          let others = map (addition width) (turns_of workers (workers - 1) rest) in
          ap (λ list. list ++ later) (get_or-set_at lists next worker longer [] same (omega (arith, size, lt)))
          ∙ ap (λ b. longer ++ map (addition width) (turns_of workers b rest))
          (dealt_last workers next before worker lt same turn)
          ∙ append_assoc old (addition width row ∷ []) others
          ∙ ap (λ list. list ++ addition width row ∷ others) (sym (ap (λ w. get_or lists w []) same ∙ is))
          ∙ turns worker 0 (omega (arith, lt), turn.1, inl (omega (arith, same)))
      | inr other ↦
          ap (λ list. list ++ later) (get_or-set_other lists next worker longer [] other)
          ∙ turns worker (suc before) (waited_more workers next before worker lt other turn)
    ]

-- where no row is left, all lists are whole
pub turns-end : (width workers next : ℕ) (lists : List (List PlainOp)) (whole : ℕ → List PlainOp) → next < workers
    → AreTurns width workers next lists [] whole
    → (worker : ℕ) → worker < workers → get_or lists worker [] ≡ whole worker
turns-end width workers next lists whole lt turns worker here =
    sym (append-nil (get_or lists worker [])) ∙ elim (cases_lt worker next) [
      | inl passed ↦ turns worker (worker + workers - next)
          (omega (arith, lt, passed), here, inr (omega (arith, lt, passed)))
      | inr ahead ↦ turns worker (worker - next) (omega (arith, here, ahead), here, inl (omega (arith, ahead)))
    ]
