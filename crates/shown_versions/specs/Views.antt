-- The rule of what is shown, and what its steps tell. A version is seen as what is known of it.
use Rattle.std.specs.Prelude.{ℕ, ◌≡◌, List, [], Some, None, IfSome, unwrap_or, option_and_then}
use mathlib.Core.Option.{some}
use mathlib.Core.List.{IsPrefix}
use lib.ListN.{get_elem?}
use Rattle.logbook.specs.Pages.{Book}
use Rattle.flame_report.specs.Answers.{value_answer_of}
use Rattle.flame_report.specs.declared.answer.Answer.{Answer}
use Rattle.flame_report.specs.declared.query.Query.{Query}
use Rattle.call_tree.specs.State.{TreeState}
use Rattle.op_book.specs.Books.{IsReplay}
use Rattle.op_book.specs.Operations.{PlainEntry, operations_of, profile_after}
use Rattle.op_book.specs.Runs.{AreChanges, AreTurnsInOrder}
use Rattle.shown_versions.specs.declared.known.KnownVersion.{KnownVersion}
use Rattle.shown_versions.specs.declared.version_rule.View.{View}

-- the tree of a version: the replay of its list of changes, in which the turns of each session are in order
pub record IsTreeOfVersion (version : KnownVersion) (tree : TreeState) : Type 0 where
  pub replay : IsReplay version.seen.log tree
  pub turns : AreTurnsInOrder version.seen.log
  pub changes : AreChanges version.seen.log
  pub width_is : tree.width ≡ version.width

abbrev pub newcomer : View
newcomer = record { known = None }

abbrev pub knower : KnownVersion → View
knower version = record { known = Some version }

-- the version shown is of the history that the view knows of, has its list and more, and rows of as many values
abbrev pub Covers : KnownVersion → View → Type 0
Covers version view = IfSome view.known (λ known. (version.seen.book ≡ known.seen.book)
    × (version.width ≡ known.width)
    × IsPrefix known.seen.log version.seen.log)

-- whoever knows of a version knows a prefix of the list of the one that is shown
abbrev pub Keeps : KnownVersion → List View → Type 0
Keeps version views = (seat : ℕ) (view : View) → get_elem? views seat ≡ some view → Covers version view

-- the version shown after the step is known, and has all that was known before
abbrev pub Shows : View → KnownVersion → KnownVersion → View → Type 0
Shows view before after new = (new ≡ knower after) × Covers after view

-- the list of changes that a view has
abbrev pub listed : View → List PlainEntry
listed view = unwrap_or (option_and_then (λ known. Some known.seen.log) view.known) []

-- the view knows which history it is of, and how wide rows are
abbrev pub IsOf : View → Book → ℕ → Type 0
IsOf view history width = (option_and_then (λ known. Some known.seen.book) view.known ≡ Some history)
    × (option_and_then (λ known. Some known.width) view.known ≡ Some width)

-- a query's plain answer after the changes of a list
abbrev pub IsAnswerAfter : List PlainEntry → Query → Answer → Type 0
IsAnswerAfter entries query answer = answer ≡ value_answer_of (profile_after (operations_of entries)) query
