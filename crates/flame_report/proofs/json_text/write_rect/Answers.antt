-- The members of a rectangle, one after the other.
use Rattle.std.proofs.Common.{rules, ◌∙◌}
use Rattle.std.proofs.lemmas.Result.{on_ok_weaker}
use Rattle.std.proofs.lemmas.List.{append_assoc}
use Rattle.flame_report.proofs.json_text.write_rect.Goals as goal

pub returns : goal.returns
returns c = record {
  before = search rules;
  added = on_ok_weaker c.end_object.result (λ last. last ∙ rw (
    c.in_ok-write_count-5.ensures.added,
    c.in_ok-write_count-4.ensures.added,
    c.in_ok-write_count-3.ensures.added,
    c.in_ok-string.ensures.ok,
    c.text.ensures,
    c.in_ok-key.ensures.ok,
    c.in_ok-write_count-2.ensures.added,
    c.in_ok-write_count.ensures.added,
    c.in_ok-begin_object.ensures.ok,
  ) (simp append_assoc)) c.end_object.ensures.ok;
}
