-- The entry takes its session's next turn.
use Rattle.std.proofs.lemmas.Grind.{common_steps}
use Rattle.std.proofs.Common.{◌≡◌, ◌<◌, ◌^◌, ℕ, ◌++◌, ◌∷◌, [], ap, sym, subst, arith, length}
use Rattle.profile_rows.specs.Rows.{total_of}
use Rattle.profile_rows.specs.Values.{rows_at}
use Rattle.op_book.specs.Books.{HasTurn}
use Rattle.op_book.specs.Ledgers.{LedgerState}
use Rattle.op_book.specs.Operations.{FitsWidth, PlainEntry, operations_of, plain_answer, profile_after}
use Rattle.op_book.proofs.LedgerLaws.{IsLedger-append, turn_held, turns_of-le}
use Rattle.op_book.proofs.ledger.Ledger.append.Goals as goal

pub overflow_add-index_mut : goal.overflow_add-index_mut
overflow_add-index_mut c = grind (arith, common_steps, turn_held, turns_of-le)

pub invariant_of-self : goal.invariant_of-self
invariant_of-self c =
    let session : c.entry.inside.session ≡ c.args.entry.session = ap (λ (e : PlainEntry). e.session) c.entry.view_is in
    let turn = subst (λ (s : LedgerState). HasTurn s.entries s.limit s.sessions c.args.entry.session c.args.entry.turn)
    (sym c.self.view_is) c.requires.turn in
    let reply = subst (λ (s : LedgerState). c.args.entry.reply ≡ plain_answer (operations_of s.entries) c.args.entry.op)
    (sym c.self.view_is) c.requires.reply in
    let fits = subst (λ (s : LedgerState). FitsWidth s.width c.args.entry.op) (sym c.self.view_is) c.requires.width in
    let light = subst (λ (s : LedgerState). (value : ℕ)
    → total_of (rows_at value (profile_after (operations_of s.entries ++ c.args.entry.op ∷ []))) < 2 ^ 63)
    (sym c.self.view_is) c.requires.light in
    let known = subst (λ n. n < length c.self.inside.turns.items) (sym session) turn.known in
    let held = turn_held c.self.inside.entries.items c.self.inside.limit c.self.inside.width c.self.inside.turns.items
    c.entry.inside.session c.index_mut.result.now c.self.invariant known c.index_mut.ensures.value in
    rw (c.push_reserved.ensures.items, held, session)
    (IsLedger-append c.self.inside.entries.items c.self.inside.limit c.self.inside.width
    c.self.inside.turns.items c.args.entry c.self.invariant turn c.requires.change fits light reply)
