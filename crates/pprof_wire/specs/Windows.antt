-- Bytes of the input, with where they lie.
use Rattle.std.specs.Prelude.{◌≡◌, ℕ, ◌+◌, List, ◌++◌, length}

-- The bytes that a reader has not handed out yet, and where they lie: a block of memory, and how far in it.
pub record Window : Type 0 where
  pub bytes : List ℕ
  pub pointer : ℕ × ℕ

-- The new window is the old one without the bytes at its front.
pub record IsAfter (old : Window) (front : List ℕ) (new : Window) : Type 0 where
  pub parts : old.bytes ≡ front ++ new.bytes
  pub block : new.pointer.0 ≡ old.pointer.0
  pub offset : new.pointer.1 ≡ old.pointer.1 + length front
