use Rattle.std.proofs.Common.{◌≡◌, ◌++◌, take}
use Rattle.flame_report.specs.Tokens.{rects_tokens}
use Rattle.flame_report.proofs.json_text.write_rects.Given as goal

-- the rectangles so far
abbrev pub invariant-loop-rect : goal.invariant-loop-rect
invariant-loop-rect l = record {
  start : l.out.before ≡ l.initial.out.before;
  tokens : l.out.tokens ≡ l.initial.out.tokens ++ rects_tokens (take l.rect-index l.rects);
}
