-- `==` on operations and replies is equality of what they hold.
use Rattle.std.specs.Prelude.{◌≡◌, Bool, true, false, ◌==◌, refl}
use Rattle.std.specs.Bool.{Decides}
use Rattle.std.specs.Cmp.{IsEquivalence, on_equiv}
use Rattle.std.proofs.lemmas.Grind.{common_steps}
use Rattle.std.proofs.Common.{arith}
use Rattle.profile_rows.specs.Equality.{batch_eq}
use Rattle.profile_rows.proofs.EqualRows.{batch_eq-decides, decided-IsEquivalence}
use Rattle.flame_report.specs.Equality.{answer_eq, answer_eq-decides, query_eq, query_eq-decides}
use Rattle.op_book.specs.Operations.{PlainOp, PlainReply, add, reset, ask, placed, answered, plain_op, plain_reply}
use Rattle.op_book.specs.declared.operation.Op.{Op}
use Rattle.op_book.specs.declared.operation.Reply.{Reply}

abbrev pub plain_op_eq : PlainOp → PlainOp → Bool
plain_op_eq (add batch) (add other) = batch_eq batch other
plain_op_eq reset reset = true
plain_op_eq (ask query) (ask other) = query_eq query other
plain_op_eq a b = false

abbrev pub plain_reply_eq : PlainReply → PlainReply → Bool
plain_reply_eq (placed place) (placed other) = place == other
plain_reply_eq (answered answer) (answered other) = answer_eq answer other
plain_reply_eq a b = false

abbrev pub op_eq : Op → Op → Bool
op_eq a b = plain_op_eq (plain_op a) (plain_op b)

abbrev pub reply_eq : Reply → Reply → Bool
reply_eq a b = plain_reply_eq (plain_reply a) (plain_reply b)

pub plain_op_eq-decides : (a b : PlainOp) → Decides (plain_op_eq a b) (a ≡ b)
plain_op_eq-decides (add batch) (add other) = grind (arith, common_steps, batch_eq-decides)
plain_op_eq-decides reset reset = (λ e. refl, λ e. refl)
plain_op_eq-decides (ask query) (ask other) = grind (arith, common_steps, query_eq-decides)
plain_op_eq-decides a b = (λ e. cc, λ e. cc)

pub plain_reply_eq-decides : (a b : PlainReply) → Decides (plain_reply_eq a b) (a ≡ b)
plain_reply_eq-decides (placed place) (placed other) = grind (arith, common_steps)
plain_reply_eq-decides (answered answer) (answered other) = grind (arith, common_steps, answer_eq-decides)
plain_reply_eq-decides a b = (λ e. cc, λ e. cc)

pub op_eq-laws : IsEquivalence op_eq
op_eq-laws = on_equiv plain_op (decided-IsEquivalence plain_op_eq-decides)

pub reply_eq-laws : IsEquivalence reply_eq
reply_eq-laws = on_equiv plain_reply (decided-IsEquivalence plain_reply_eq-decides)
