use Rattle.std.proofs.Common.{Some, ap}
use Rattle.flame_words.proofs.OptionTexts.{is_name_text-name}
use Rattle.flame_words.proofs.words.name_from.Goals as goal

pub returns-in-Ok : goal.returns-in-Ok
returns-in-Ok c =
    rw c.in-Some.is (ap Some c.in-Ok.ensures.made.0, is_name_text-name c.in-Some.text.now c.in-Ok.ensures.made.1)
