-- One entry more keeps what a ledger keeps.
use Rattle.std.proofs.lemmas.Grind.{common_steps}
use Rattle.std.proofs.Common.{◌≡◌, ℕ, ◌+◌, ◌<◌, ◌≤◌, ◌^◌, true, List, [], ◌∷◌, ◌++◌, length, get_or, set}
use Rattle.std.proofs.Common.{◌∙◌, arith}
use Rattle.std.specs.Prelude.{◌==◌}
use Rattle.std.proofs.lemmas.Bool.{cases_eq, eq-eqb, ne_eqb}
use Rattle.std.proofs.lemmas.List.{length-append, length-set, get_or-set_same, get_or-set_other}
use Rattle.std.proofs.lemmas.List.Sums.{count_by-le-length}
use Rattle.profile_rows.specs.Rows.{total_of}
use Rattle.profile_rows.specs.Values.{rows_at}
use Rattle.op_book.specs.Books.{HasTurn}
use Rattle.op_book.specs.Ledgers.{IsLedger}
use Rattle.op_book.specs.Operations.{FitsWidth, PlainEntry, is_change, operations_of, plain_answer, profile_after}
use Rattle.op_book.specs.Runs.{turns_of}
use Rattle.op_book.proofs.EntryLaws.{turns_of-push}

-- the count that a ledger has of a session's entries
pub turn_held : (entries : List PlainEntry) (limit width : ℕ) (turns : List ℕ) (session held : ℕ)
    → IsLedger entries limit width turns → session < length turns
    → held ≡ get_or turns session held → held ≡ turns_of entries session
turn_held entries limit width turns session held is known there = there ∙ is.turns_are session held known

pub turns_of-le : (entries : List PlainEntry) (session : ℕ) → turns_of entries session ≤ length entries
turns_of-le entries session = count_by-le-length (λ (entry : PlainEntry). entry.session == session) entries

next_turns : (entries : List PlainEntry) (turns : List ℕ) (entry : PlainEntry)
    → ((session otherwise : ℕ) → session < length turns → get_or turns session otherwise ≡ turns_of entries session)
    → (session otherwise : ℕ) → session < length turns → get_or (set turns entry.session
    (turns_of entries entry.session + 1)) session otherwise ≡ turns_of (entries ++ entry ∷ []) session
next_turns entries turns entry are session otherwise lt =
    grind (arith, common_steps, cases_eq, eq-eqb, ne_eqb, get_or-set_same, get_or-set_other, turns_of-push)

pub IsLedger-append : (entries : List PlainEntry) (limit width : ℕ) (turns : List ℕ) (entry : PlainEntry)
    → IsLedger entries limit width turns
    → HasTurn entries limit (length turns) entry.session entry.turn
    → is_change entry.op ≡ true → FitsWidth width entry.op
    → ((value : ℕ) → total_of (rows_at value (profile_after (operations_of entries ++ entry.op ∷ []))) < 2 ^ 63)
    → entry.reply ≡ plain_answer (operations_of entries) entry.op
    → IsLedger (entries ++ entry ∷ []) limit width (set turns entry.session (turns_of entries entry.session + 1))
IsLedger-append entries limit width turns entry is turn change fits light reply =
    grind (arith, common_steps, length-append, length-set, next_turns)
