-- What a text is folded text of.
use Rattle.std.proofs.lemmas.Grind.{common_steps}
use Rattle.std.proofs.Common.{◌≡◌, ◌≢◌, ℕ, ◌+◌, ◌^◌, ◌<◌, ◌≤◌, List, [], ◌∷◌, ◌++◌, length, map, refl, sym, ap, ◌∙◌}
use Rattle.std.proofs.Common.{arith, subst, length-append, drop, inl, inr}
use Rattle.std.proofs.lemmas.List.{nil_from_length}
use Rattle.std.proofs.lemmas.List.Sums.{sum_by-cons, sum_by-append, sum_by_push}
use Rattle.std.proofs.lemmas.List.Elements.{All-drop, All-head, All-same}
use Rattle.std.specs.Str.{IsUtf8}
use Rattle.std.specs.Str.Lines.{lines}
use Rattle.std.specs.Str.Parse.{digits_value}
use Rattle.profile_rows.specs.declared.weighted_stacks.WeightedStack.{WeightedStack}
use Rattle.folded_text.specs.declared.folded.FoldedFault.{FoldedFault}
use Rattle.folded_text.specs.declared.folded.FoldedFault.TheVariants.{NotUtf8, NoCount, Count, Depth, Heavy, NoMemory}
use Rattle.profile_rows.specs.Rows.{total_of}
use Rattle.folded_text.specs.FoldedText.{HasCount, HasWeight, IsRowLine, AreRowLines, IsFoldedText, IsLineFault}
use Rattle.folded_text.specs.FoldedText.{IsFirstFault, IsFittingFault, IsWorkFault}
use Rattle.ordered_rows.specs.StackFrames.{frames_of}
use Rattle.std.specs.Prelude.{All}
use Rattle.std.specs.declared.iter.Enumerate.{Enumerate}
use Rattle.bstr.specs.Text.{lines_of, without_terminator}
use Rattle.folded_text.proofs.Counts.{HasCount-same}
use Rattle.folded_text.proofs.Lines.{lines_of-lines}

pub record Shares (line : List ℕ) (row : WeightedStack) (stack digits : List ℕ) : Type 0 where
  pub frames : row.stack ≡ frames_of stack
  pub weight : row.weight ≡ digits_value 10 digits

-- a row of the line has the line's one count
pub shared : (line : List ℕ) (row : WeightedStack) (stack digits : List ℕ)
    → IsRowLine line row → HasCount line stack digits → Shares line row stack digits
shared line row stack digits this count =
    let (same_stack, same_digits) =
    HasCount-same line this.counted.0 stack this.counted.1 digits this.counted.2.count count in
    record { frames = cc; weight = cc }

-- one line spells one row
pub IsRowLine-same : (line : List ℕ) (a b : WeightedStack) → IsRowLine line a → IsRowLine line b → a ≡ b
IsRowLine-same line a b one other =
    grind (arith, common_steps, shared line a other.counted.0 other.counted.1 one other.counted.2.count)

pub AreRowLines-same : (ls : List (List ℕ)) (rows others : List WeightedStack)
    → AreRowLines ls rows → AreRowLines ls others → rows ≡ others
AreRowLines-same [] rows others one other = one ∙ sym other
AreRowLines-same ([] ∷ ls) rows others one other = AreRowLines-same ls rows others one other
AreRowLines-same ((byte ∷ line) ∷ ls) [] others one other = absurd one
AreRowLines-same ((byte ∷ line) ∷ ls) (row ∷ rows) [] one other = absurd other
AreRowLines-same ((byte ∷ line) ∷ ls) (row ∷ rows) (r ∷ others) one other =
    cc (IsRowLine-same (byte ∷ line) row r one.0 other.0, AreRowLines-same ls rows others one.1 other.1)

-- one line more, that spells a row or is empty
pub AreRowLines-push : (ls : List (List ℕ)) (rows : List WeightedStack) (line : List ℕ) (row : WeightedStack)
    → AreRowLines ls rows → 0 < length line → IsRowLine line row → AreRowLines (ls ++ line ∷ []) (rows ++ row ∷ [])
AreRowLines-push [] [] [] row all some this = absurd (omega arith)
AreRowLines-push [] [] (byte ∷ line) row all some this = (this, refl)
AreRowLines-push [] (r ∷ rows) line row all some this = cc
AreRowLines-push ([] ∷ ls) rows line row all some this = AreRowLines-push ls rows line row all some this
AreRowLines-push ((byte ∷ l) ∷ ls) [] line row all some this = absurd all
AreRowLines-push ((byte ∷ l) ∷ ls) (r ∷ rows) line row all some this =
    (all.0, AreRowLines-push ls rows line row all.1 some this)

pub AreRowLines-skip : (ls : List (List ℕ)) (rows : List WeightedStack)
    → AreRowLines ls rows → AreRowLines (ls ++ [] ∷ []) rows
AreRowLines-skip [] rows all = all
AreRowLines-skip ([] ∷ ls) rows all = AreRowLines-skip ls rows all
AreRowLines-skip ((byte ∷ l) ∷ ls) [] all = absurd all
AreRowLines-skip ((byte ∷ l) ∷ ls) (r ∷ rows) all = (all.0, AreRowLines-skip ls rows all.1)

-- the rows of lines that hold a line: those before it, its own, those after it
abbrev pub CutAt : List (List ℕ) → List ℕ → List WeightedStack → Type 0
CutAt before line rows = (front : List WeightedStack) × (row : WeightedStack)
    × (back : List WeightedStack) × (rows ≡ front ++ row ∷ back) × AreRowLines before front × IsRowLine line row

cut_at : (before : List (List ℕ)) (line : List ℕ) (after : List (List ℕ)) (rows : List WeightedStack)
    → AreRowLines (before ++ line ∷ after) rows → 0 < length line → CutAt before line rows
cut_at [] [] after rows all some = absurd (omega arith)
cut_at [] (byte ∷ line) after [] all some = absurd all
cut_at [] (byte ∷ line) after (row ∷ rows) all some = ([], row, rows, refl, refl, all.0)
cut_at ([] ∷ before) line after rows all some = cut_at before line after rows all some
cut_at ((byte ∷ l) ∷ before) line after [] all some = absurd all
cut_at ((byte ∷ l) ∷ before) line after (r ∷ rows) all some =
    let rest = cut_at before line after rows all.1 some in
    (r ∷ rest.0, rest.1, rest.2, ap (λ z. r ∷ z) rest.3, (all.0, rest.4), rest.5)

-- a line that spells a row within the total has no fault but `NoMemory`
pub faultless : (earlier number : ℕ) (line : List ℕ) (row : WeightedStack) (fault : FoldedFault)
    → IsRowLine line row → earlier + row.weight < 2 ^ 63 → IsLineFault earlier number line fault → fault ≡ NoMemory
faultless earlier number line row (NotUtf8 at) this fits h = absurd (h.1 this.utf8)
faultless earlier number line row (NoCount at) this fits h = absurd (h.2 _ _ this.counted.2.count)
faultless earlier number line row (Count at) this fits h =
    let same = shared line row h.2 h.3 this h.4 in
    absurd (omega (arith, same.weight, this.fits, h.5))
faultless earlier number line row (Depth at) this fits h =
    let same = shared line row h.2 h.3 this h.4 in
    absurd (omega (arith, ap length same.frames, this.depth, h.6))
faultless earlier number line row (Heavy at) this fits h =
    absurd (omega (arith, ap (λ (r : WeightedStack). r.weight) (IsRowLine-same line row h.1 this h.2), fits, h.3))
faultless earlier number line row NoMemory this fits h = refl

-- a line among those of rows within the limit has no fault but `NoMemory`
pub faultless_at : (before : List (List ℕ)) (line : List ℕ) (after : List (List ℕ)) (front rows : List WeightedStack)
    (number : ℕ) (fault : FoldedFault) → AreRowLines (before ++ line ∷ after) rows → total_of rows < 2 ^ 63
    → AreRowLines before front → 0 < length line → IsLineFault (total_of front) number line fault → fault ≡ NoMemory
faultless_at before line after front rows number fault all fits known some there =
    let (own, row, back, cut, known_own, this) = cut_at before line after rows all some in
    let same = AreRowLines-same before front own known known_own in
    let earlier : total_of front + row.weight < 2 ^ 63 = grind (arith, common_steps, sum_by-append, sum_by-cons) in
    faultless (total_of front) number line row fault this earlier there

-- folded text has no first fault but `NoMemory`
pub IsFirstFault-folded : (text : List ℕ) (rows : List WeightedStack) (fault : FoldedFault)
    → IsFoldedText text rows → IsFirstFault text fault → fault ≡ NoMemory
IsFirstFault-folded text rows fault folded (before, line, after, front, cut, known, fits, some, there) =
    faultless_at before line after front rows (length before + 1) fault
    (subst (λ ls. AreRowLines ls rows) cut folded.rows_lines) folded.total_fits known some there

-- nor does work on its rows end by another
pub IsWorkFault-folded : (text : List ℕ) (rows : List WeightedStack) (fault : FoldedFault)
    → IsFoldedText text rows → IsWorkFault text fault → fault ≡ NoMemory
IsWorkFault-folded text rows fault folded (inl first) = IsFirstFault-folded text rows fault folded first
IsWorkFault-folded text rows fault folded (inr late) = late.0

-- one text has one list of rows
pub IsFoldedText-same : (text : List ℕ) (rows others : List WeightedStack)
    → IsFoldedText text rows → IsFoldedText text others → rows ≡ others
IsFoldedText-same text rows others one other = AreRowLines-same (lines text) rows others one.rows_lines other.rows_lines

-- the row of a line that was read
pub IsRowLine-read : (line stack : List ℕ) (weight : ℕ) → HasWeight line stack weight
    → length (frames_of stack) ≤ 65535 → IsRowLine line (record { stack = frames_of stack; weight = weight })
IsRowLine-read line stack weight this depth = record {
  utf8 = this.utf8;
  counted = (stack, this.digits, record { count = this.count; frames = refl; weight = this.value });
  depth = depth;
  fits = this.small;
}

-- the stack text of a line holds no line feed either
pub text_one_line : (line text digits : List ℕ)
    → HasCount line text digits → All (λ byte. byte ≢ 10) line → All (λ byte. byte ≢ 10) text
text_one_line line text digits count all = λ k d below. grind (arith, common_steps, count.parts, all k d)

-- ---- the loop over the lines

-- the lines before the rest, `count` of them, spell the rows
pub record IsReadTo (text : List ℕ) (rest : List (List ℕ)) (count : ℕ) (rows : List WeightedStack) : Type 0 where
  pub before : List (List ℕ)
  pub cut : lines text ≡ before ++ rest
  pub counted : count ≡ length before
  pub known : AreRowLines before rows
  pub fits : total_of rows < 2 ^ 63

-- before the first of the numbered lines no row is read
pub IsReadTo-begin : (text : List ℕ) (iterator numbered : Enumerate (List (List ℕ))) (rows : List WeightedStack)
    → iterator ≡ numbered → numbered.iter ≡ map without_terminator (lines_of text)
    → numbered.count ≡ 0 → rows ≡ [] → IsReadTo text iterator.iter iterator.count rows
IsReadTo-begin text iterator numbered rows same source first none = grind (arith, common_steps, lines_of-lines)

pub IsReadTo-row : (text : List ℕ) (rest : List (List ℕ)) (count : ℕ) (rows : List WeightedStack)
    (line : List ℕ) (next : List (List ℕ)) (after : ℕ) (row : WeightedStack) (all : List WeightedStack)
    → IsReadTo text rest count rows → rest ≡ line ∷ next → after ≡ count + 1 → 0 < length line → IsRowLine line row
    → total_of rows + row.weight < 2 ^ 63 → all ≡ rows ++ row ∷ [] → IsReadTo text next after all
IsReadTo-row text rest count rows line next after row all so_far e number some this fits more =
    record {
      before = so_far.before ++ line ∷ [];
      cut = grind (arith, common_steps, so_far.cut);
      counted = omega (arith, length-append so_far.before (line ∷ []), so_far.counted);
      known = rw more (AreRowLines-push so_far.before rows line row so_far.known some this);
      fits = rw more (omega (arith, sum_by_push (λ (row : WeightedStack). row.weight) rows row, fits));
    }

pub IsReadTo-skip : (text : List ℕ)
    (rest : List (List ℕ)) (count : ℕ) (rows : List WeightedStack) (line : List ℕ) (next : List (List ℕ)) (after : ℕ)
    → IsReadTo text rest count rows
    → rest ≡ line ∷ next → after ≡ count + 1 → length line ≡ 0 → IsReadTo text next after rows
IsReadTo-skip text rest count rows line next after so_far e number none =
    grind (arith, common_steps, nil_from_length, length-append, AreRowLines-skip)

-- what holds of each line holds of the next one
pub IsReadTo-line : (P : List ℕ → Type 0) (text : List ℕ) (rest : List (List ℕ)) (count : ℕ)
    (rows : List WeightedStack) (line : List ℕ) (next : List (List ℕ))
    → IsReadTo text rest count rows → rest ≡ line ∷ next → All P (lines text) → P line
IsReadTo-line P text rest count rows line next so_far e all =
    All-head P line next (All-same P (line ∷ next) (drop (length so_far.before) (lines text))
    (grind (arith, common_steps, so_far.cut)) (All-drop P (length so_far.before) (lines text) all))

-- the next line has the first fault, where it isn't UTF-8
pub IsFirstFault-not_utf8 : (text : List ℕ) (rest : List (List ℕ)) (count : ℕ) (rows : List WeightedStack)
    (line : List ℕ) (next : List (List ℕ)) (number : ℕ) → IsReadTo text rest count rows → rest ≡ line ∷ next
    → 0 < length line → number ≡ count + 1 → ¬ IsUtf8 line → IsFirstFault text (NotUtf8 number)
IsFirstFault-not_utf8 text rest count rows line next number so_far e some here invalid = (
  so_far.before,
  line,
  next,
  rows,
  so_far.cut ∙ ap (λ rest. so_far.before ++ rest) e,
  so_far.known,
  so_far.fits,
  some,
  (omega (arith, here, so_far.counted), invalid),
)

-- a line whose stack text and weight don't fit has that fault
pub IsLineFault-fitting : (earlier number : ℕ) (line text : List ℕ) (depth weight : ℕ) (fault : FoldedFault)
    → HasWeight line text weight → depth ≡ length (frames_of text)
    → IsFittingFault earlier number depth weight fault → IsLineFault earlier number line fault
IsLineFault-fitting earlier number line text depth weight (NotUtf8 at) this frames h = absurd h
IsLineFault-fitting earlier number line text depth weight (NoCount at) this frames h = absurd h
IsLineFault-fitting earlier number line text depth weight (Count at) this frames h = absurd h
IsLineFault-fitting earlier number line text depth weight (Depth at) this frames h =
    (h.0, this.utf8, text, this.digits, this.count, omega (arith, this.value, this.small), omega (arith, frames, h.1))
IsLineFault-fitting earlier number line text depth weight (Heavy at) this frames h = (
  h.0,
  record { stack = frames_of text; weight = weight },
  IsRowLine-read line text weight this (omega (arith, frames, h.1)),
  h.2,
)
IsLineFault-fitting earlier number line text depth weight NoMemory this frames h = absurd h

-- where memory runs out the line spells a row that can follow
pub IsLineFault-memory : (earlier number : ℕ) (line text : List ℕ) (depth weight : ℕ)
    → HasWeight line text weight → depth ≡ length (frames_of text) → depth ≤ 65535
    → earlier + weight < 2 ^ 63 → IsLineFault earlier number line NoMemory
IsLineFault-memory earlier number line text depth weight this frames most fits = (
  record { stack = frames_of text; weight = weight },
  IsRowLine-read line text weight this (omega arith),
  fits,
)
