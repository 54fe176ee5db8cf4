-- Without a limit these are all lines.
use Rattle.collect_sources.proofs.Cuts.{all_lines, fewer_lines}
use Rattle.collecting.proofs.window.Window.first_rows.Goals as goal

pub returns-then-not-self : goal.returns-then-not-self
returns-then-not-self g c = all_lines c.args.text.now

pub returns : goal.returns
returns g c =
    fewer_lines c.args.text.now c.first_lines-lines.result.now c.first_lines.result.now
    c.first_lines-lines.ensures.lines c.first_lines.ensures.lines
