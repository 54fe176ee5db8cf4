-- One row more.
use Rattle.std.proofs.Common.{ℕ, ◌≡◌, ◌<◌, ◌+◌, ◌%◌, ◌++◌, ◌∷◌, [], List, get_or, length, map, set, ap, sym, subst}
use Rattle.std.proofs.Common.{◌∙◌, arith}
use Rattle.std.specs.Prelude.{sum_by}
use Rattle.std.proofs.lemmas.List.{get_or-map, length-map, length-set, map-set, map_push, nil_from_length}
use Rattle.std.proofs.lemmas.List.Sums.{sum_by-cons}
use Rattle.std.proofs.lemmas.Nat.{mod_below}
use Rattle.op_book.specs.Operations.{PlainOp, plain_op}
use Rattle.profile_rows.specs.OwnedRows.{plain_row}
use Rattle.profile_rows.specs.declared.batch.OwnedRow.{OwnedRow}
use Rattle.live_report.specs.Dealing.{addition, turns_of, weigh}
use Rattle.live_report.proofs.Lists.{weigh-push}
use Rattle.live_report.proofs.Turns.{AreTurns, turns-end, turns-more}
use Rattle.live_report.proofs.dealing.deal_rows.Goals as goal

pub loop-row-preserved : goal.loop-row-preserved
loop-row-preserved c =
    let items = c.loop-row.lists.items in
    let k = c.loop-row.worker in
    let size = length-set items k c.push.new.self in
    let counts = c.loop-row.invariant.0 in
    let inside : k < length items = c.loop-row.invariant.1 in
    let lists : List (List PlainOp) = map (λ list. map plain_op list.items) items in
    let old : List PlainOp = map plain_op c.index_mut.result.now.items in
    let row : OwnedRow = c.in-Some.row in
    let rest : List OwnedRow = c.next.new.self.rest.items in
    let add : PlainOp = addition c.args.width (plain_row row) in
    let plain = length-map items (λ list. map plain_op list.items) in
    let held : get_or lists k [] ≡ old = get_or-map (λ list. map plain_op list.items) items
    k c.index_mut.result.now [] inside ∙ ap (λ list. map plain_op list.items) (sym c.index_mut.ensures.value) in
    let pushed : map plain_op c.push.new.self.items ≡ old ++ add ∷ [] =
    ap (map plain_op) c.in_ok-push.ensures.items
    ∙ map_push plain_op c.index_mut.result.now.items c.in_ok-op.op ∙ ap (λ op. old ++ op ∷ []) c.in_ok-op.ensures in
    let changed : map (λ list. map plain_op list.items) (set items k c.push.new.self) ≡ set lists k (old ++ add ∷ []) =
    map-set (λ list. map plain_op list.items) items k c.push.new.self ∙ ap (set lists k) pushed in
    let left : c.loop-row.row-iterator.rest.items ≡ row ∷ rest = c.in-Some.ensures.steps.0 in (
      size ∙ counts,
      let long = c.len.ensures in
          let below = mod_below (k + 1) c.len.result (omega (arith, inside, long, size)) in
          omega (arith, below, long),
      λ weight.
          let whole = ap (weigh weight) changed in
          let one = weigh-push weight lists k old add (omega (arith, plain, inside)) held in
          let first = ap (λ rows. sum_by weight (map (addition c.args.width) (map plain_row rows))) left in
          let cons = sum_by-cons weight add (map (addition c.args.width) (map plain_row rest)) in
          let before = c.loop-row.invariant.2 weight in
          omega (arith, whole, one, first, cons, before),
      let width = c.args.width in
          let rows = map plain_row rest in
          let whole : ℕ → List PlainOp = λ worker. get_or
          (map (λ list. map plain_op list.items) c.args.lists.now.items) worker []
          ++ map (addition width) (turns_of (length c.args.lists.now.items) worker (map plain_row c.args.rows.items)) in
          let before : AreTurns width (length items) k lists (plain_row row ∷ rows) whole = subst
          (λ (left : List OwnedRow). AreTurns width (length items) k lists (map plain_row left) whole)
          left c.loop-row.invariant.3 in
          let longer = set lists k (old ++ add ∷ []) in
          let dealt : AreTurns width (length items) ((k + 1) % length items) longer rows whole =
          turns-more width (length items) k lists old (plain_row row) rows whole (sym plain) inside held before in
          let count : length items ≡ c.len.result = omega (arith, c.len.ensures, size) in
          let now : List (List PlainOp) = map (λ list. map plain_op list.items) (set items k c.push.new.self) in
          subst (λ n. AreTurns width n ((k + 1) % c.len.result) now rows whole) (sym size)
          (subst (λ m. AreTurns width (length items) ((k + 1) % m) now rows whole) count
          (subst (λ (l : List (List PlainOp)). AreTurns width (length items) ((k + 1) % length items) l rows whole)
          (sym changed) dealt)),
    )

pub returns-clause-turns : goal.returns-clause-turns
returns-clause-turns c = λ worker lt.
    let items = c.loop-row.lists.items in
    let width = c.args.width in
    let lists : List (List PlainOp) = map (λ list. map plain_op list.items) items in
    let whole : ℕ → List PlainOp = λ worker. get_or
    (map (λ list. map plain_op list.items) c.args.lists.now.items) worker []
    ++ map (addition width) (turns_of (length c.args.lists.now.items) worker (map plain_row c.args.rows.items)) in
    let none : c.loop-row.row-iterator.rest.items ≡ [] =
    nil_from_length _ (omega (arith, c.loop-row.row-iterator.rest.ok.0, c.in-None.ensures.steps.0)) in
    let turns : AreTurns width (length items) c.loop-row.worker lists [] whole = subst (λ (left : List OwnedRow).
    AreTurns width (length items) c.loop-row.worker lists (map plain_row left) whole) none c.loop-row.invariant.3 in
    turns-end width (length items) c.loop-row.worker lists whole
    c.loop-row.invariant.1 turns worker (omega (arith, lt, c.loop-row.invariant.0))
