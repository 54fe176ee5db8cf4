use Rattle.std.proofs.Common.{ap, subst, ◌∙◌, List, ℕ}
use Rattle.flame_program.specs.Program.{EndsBy}
use Rattle.flame_words.specs.Words.{texts_of}
use Rattle.flame_program.proofs.process.run_texts.Goals as goal

pub returns-in-Ok : goal.returns-in-Ok
returns-in-Ok g c = subst
    (λ (words : List (List ℕ)). EndsBy words 268435456 (g.R.Read.remaining c.args.reader.now)
    (g.R.Read.remaining c.outcome_of.new.reader) (g.W.Write.contents c.args.writer.now)
    (g.W.Write.contents c.outcome_of.new.writer) c.outcome_of.result)
    (ap texts_of c.as_slice-texts.ensures.value ∙ c.in-Ok.ensures) c.outcome_of.ensures
