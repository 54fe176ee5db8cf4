use Rattle.std.proofs.Common.{◌≤◌, ◌++◌, length, take, rules, arith, length-append, length-take, length-take-le}
use Rattle.std.proofs.KnownBytes.{Consumes-trans}
use Rattle.flame_program.proofs.streams.read_part.Goals as goal

pub returns-then-count-room : goal.returns-then-count-room
returns-then-count-room g c start taken =
    let front = take c.in-Ok.count c.read.new.buf in
    let fits : c.in-Ok.count ≤ length c.read.new.buf = search rules in (
      c.args.input.now.items ++ front,
      omega (
        arith,
        length-append c.args.input.now.items front,
        length-take-le c.in-Ok.count c.read.new.buf fits,
        length-take c.min-part.result c.args.buffer.now,
      ),
      Consumes-trans _ _ _ _ _ taken c.in-Ok.ensures.bytes.0,
    )

pub returns-in-Err-extend_from_slice : goal.returns-in-Err-extend_from_slice
returns-in-Err-extend_from_slice g c start taken =
    let front = take c.in-Ok.count c.read.new.buf in
    let fits : c.in-Ok.count ≤ length c.read.new.buf = search rules in (
      c.args.input.now.items ++ front,
      omega (
        arith,
        length-append c.args.input.now.items front,
        length-take-le c.in-Ok.count c.read.new.buf fits,
        length-take c.min-part.result c.args.buffer.now,
      ),
      Consumes-trans _ _ _ _ _ taken c.in-Ok.ensures.bytes.0,
    )
