-- Rows whose stacks are texts.
use Rattle.std.specs.Prelude.{ℕ, ◌≡◌, ◌≢◌, ◌<◌, ◌≤◌, ◌^◌, All, AllPairs, List, length, map, string_bytes}
use Rattle.std.specs.List.{join_with_byte}
use Rattle.profile_rows.specs.declared.stack_texts.StackText.{StackText}
use Rattle.profile_rows.specs.declared.weighted_stacks.WeightedStack.{WeightedStack}
use Rattle.profile_rows.specs.Aggregate.{AreWeighty, Weighted, aggregate_of}
use Rattle.profile_rows.specs.Names.{IsName}
use Rattle.profile_rows.specs.Limits.{most_frames}
use Rattle.profile_rows.specs.Rows.{total_of}

-- a row by its text
pub record TextState : Type 0 where
  pub text : List ℕ
  pub weight : ℕ

abbrev pub plain_text : StackText → TextState
plain_text row = record { text = string_bytes row.text; weight = row.weight }

-- the names of a row's stack with a semicolon between each two
abbrev pub joined_row : WeightedStack → TextState
joined_row row = record { text = join_with_byte 59 row.stack; weight = row.weight }

-- rows of weight above 0 by the texts of their stacks, each stack once: their aggregate is this
pub record AreStackTexts (weights : Weighted) (texts : List StackText) : Type 0 where
  pub rows : List WeightedStack
  pub spelled : map plain_text texts ≡ map joined_row rows
  pub whole : aggregate_of rows ≡ weights
  pub weighty : AreWeighty rows
  pub apart : AllPairs (λ (a b : WeightedStack). a.stack ≢ b.stack) rows
  pub named : All (λ (row : WeightedStack). All IsName row.stack) rows
  pub deep : All (λ (row : WeightedStack). length row.stack ≤ most_frames) rows
  pub fits : total_of rows < 2 ^ 63
