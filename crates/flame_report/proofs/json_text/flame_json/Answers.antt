-- The text of a layout's tokens is its JSON text.
use Rattle.std.proofs.lemmas.Grind.{common_steps}
use Rattle.std.proofs.Common.{arith}
use Rattle.flame_report.proofs.Same.{if_ok_seen}
use Rattle.flame_report.proofs.TokenLaws.{print-flame_tokens}
use Rattle.flame_report.proofs.json_text.flame_json.Goals as goal

pub returns : goal.returns
returns c = grind (arith, common_steps, if_ok_seen, print-flame_tokens)
