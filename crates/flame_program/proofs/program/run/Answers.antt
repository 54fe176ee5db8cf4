use Rattle.flame_words.specs.Words.{texts_of}
use Rattle.flame_program.proofs.Runs.{ran}
use Rattle.flame_program.proofs.program.run.Goals as goal

pub returns : goal.returns
returns g c = rw c.of.ensures.cause (ran (texts_of c.args.words.now) c.args.limit
    (g.R.Read.remaining c.args.reader.now) (g.R.Read.remaining c.outcome_of.new.reader)
    (g.W.Write.contents c.args.writer.now) (g.W.Write.contents c.outcome_of.new.writer)
    c.outcome_of.result c.of.result.code c.outcome_of.ensures c.of.ensures.code)
