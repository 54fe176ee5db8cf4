use Rattle.std.proofs.Common.{map, string_bytes}
use Rattle.std.proofs.lemmas.Result.{IfErr-weaker, IfOk-weaker}
use Rattle.std.specs.Vec.Iter.{into_iter_items}
use Rattle.flame_program.proofs.Runs.{ran}
use Rattle.flame_program.proofs.process.run_process.Goals as goal

pub returns-clause-ran : goal.returns-clause-ran
returns-clause-ran g c =
    IfOk-weaker c.args.words _ _
    (λ words ends. (
      c.run_words-cause.result,
      ran (map string_bytes (into_iter_items words)) 268435456 (g.R.Read.remaining c.args.reader.now)
          (g.R.Read.remaining c.run_words-cause.new.reader) (g.W.Write.contents c.args.writer.now)
          (g.W.Write.contents c.run_words-cause.new.writer) c.run_words-cause.result _ ends c.exit_code.ensures,
      c.say-said.ensures,
    ))
    c.run_words-cause.ensures.ends

pub returns-clause-unread : goal.returns-clause-unread
returns-clause-unread g c =
    IfErr-weaker c.args.words _ _
    (λ error unread. (
      c.run_words-cause.result,
      record {
        code_is = c.exit_code.ensures;
        cause_is = unread.0;
        reader_is = unread.1;
        writer_is = unread.2;
      },
      c.say-said.ensures,
    ))
    c.run_words-cause.ensures.unread
