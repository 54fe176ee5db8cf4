-- Where the receipt of a change has its entry, and how the receipts of a log stand after each other.
use Rattle.std.specs.Prelude.{ℕ, ◌≡◌, ◌<◌, ◌+◌, ◌*◌, ◌⊎◌, IsSomeAnd, false, cond, slice_get, List}
use Rattle.op_book.specs.Operations.{PlainEntry, PlainReceipt, is_change}

-- the entry at this place is the session's, with this operation and this reply
abbrev pub HasEntry : List PlainEntry → ℕ → PlainReceipt → Type 0
HasEntry entries session receipt = IsSomeAnd (slice_get entries receipt.at)
    (λ entry. (entry.session ≡ session) × (entry.op ≡ receipt.op) × (entry.reply ≡ receipt.reply))

-- a receipt's place in a run: a report stands before the change at its place, and after the one before that
abbrev pub key_of : PlainReceipt → ℕ
key_of receipt = cond (is_change receipt.op) (2 * receipt.at + 1) (2 * receipt.at)

-- the keys don't fall, and are not those of one change
abbrev pub Precedes : PlainReceipt → PlainReceipt → Type 0
Precedes earlier later = (key_of earlier < key_of later)
    ⊎ ((key_of earlier ≡ key_of later) × (is_change later.op ≡ false))
