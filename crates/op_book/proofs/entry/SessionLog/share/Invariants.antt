use Rattle.std.proofs.Common.{◌≡◌, take}
use Rattle.op_book.proofs.entry.SessionLog.share.Given as goal

-- the receipts so far
abbrev pub invariant-loop-receipt : goal.invariant-loop-receipt
invariant-loop-receipt l = l.receipts.items ≡ take l.receipt-index l.self.receipts
