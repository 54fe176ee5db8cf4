-- Rows and totals.
use Rattle.std.proofs.Common.{ℕ, ◌≡◌, ◌++◌, [], List, get_or, length, map, replicate, ap, sym, subst, ◌∙◌, arith}
use lib.ListN.{length-replicate}
use Rattle.std.specs.Prelude.{sum_by}
use Rattle.std.proofs.lemmas.List.{length-map}
use Rattle.std.proofs.lemmas.Result.{IfOk-weaker}
use Rattle.std.proofs.lemmas.Simd.{map-map}
use Rattle.profile_rows.specs.Values.{BatchState, Row}
use Rattle.profile_rows.specs.OwnedRows.{plain_row}
use Rattle.op_book.specs.Operations.{PlainOp, plain_op}
use Rattle.live_report.specs.Dealing.{AreDealt, addition, totals_from, turns_of, weigh}
use Rattle.live_report.proofs.Lists.{dealt_from, get_or-none, weigh-none}
use Rattle.live_report.proofs.dealing.deal.Goals as goal

pub returns : goal.returns
returns c =
    let lists = c.deal_rows.new.lists.items in
    let batch : BatchState = c.in_ok-batch.batch in
    let before : List (List PlainOp) = map (λ list. map plain_op list.items) c.in_ok-lists.lists.items in
    let empty : before ≡ replicate c.args.sessions [] = c.in_ok-lists.ensures in
    let count : length c.in_ok-lists.lists.items ≡ c.args.sessions =
    sym (length-map c.in_ok-lists.lists.items (λ list. map plain_op list.items)) ∙ ap length empty
    ∙ length-replicate c.args.sessions [] in
    IfOk-weaker c.with_totals.result _ _ (λ asked ends.
    subst (λ (b : BatchState). AreDealt b c.args.sessions (map (λ list. map plain_op list.items) asked.items))
    c.in_ok-batch.ensures
    (dealt_from batch c.args.sessions
    (map (λ list. map plain_op list.items) lists) (map (λ list. map plain_op list.items) asked.items)
    (length-map lists (λ list. map plain_op list.items) ∙ c.deal_rows.ensures.count ∙ count)
    (λ weight.
    let more = c.in_ok-deal_rows.ensures.dealt weight in
    let none = ap (weigh weight) empty ∙ weigh-none weight c.args.sessions in
    let rows =
    ap (λ (rows : List Row). sum_by weight (map (addition c.width-width.result) rows)) c.in_ok-rows.ensures in
    let width = ap (λ (width : ℕ). sum_by weight (map (addition width) batch.rows)) c.width-width.ensures.width in
    omega (arith, more, none, rows, width))
    (λ worker lt.
    c.in_ok-deal_rows.ensures.turns worker (omega (arith, lt, count))
    ∙ ap (λ (first : List PlainOp). first ++ map (addition c.width-width.result) (turns_of
    (length c.in_ok-lists.lists.items) worker (map plain_row c.in_ok-rows.rows.items)))
    (ap (λ (l : List (List PlainOp)). get_or l worker []) empty ∙ get_or-none c.args.sessions worker)
    ∙ ap (λ (n : ℕ). map (addition c.width-width.result) (turns_of n worker (map plain_row c.in_ok-rows.rows.items)))
    count
    ∙ ap (λ (rows : List Row). map (addition c.width-width.result) (turns_of c.args.sessions worker rows))
    c.in_ok-rows.ensures
    ∙ ap (λ (width : ℕ). map (addition width) (turns_of c.args.sessions worker batch.rows)) c.width-width.ensures.width)
    (ends
    ∙ ap (λ (width : ℕ). map (λ list. map plain_op list.items ++ totals_from 0 width) lists) c.width-width.ensures.width
    ∙ sym (map-map (λ list. list ++ totals_from 0 batch.width) (λ list. map plain_op list.items) lists))))
    c.with_totals.ensures
