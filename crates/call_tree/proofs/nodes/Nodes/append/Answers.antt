use Rattle.std.proofs.Common.{◌++◌, ◌∷◌, [], length, arith, sym, ap, ◌∙◌, subst}
use Rattle.std.proofs.lemmas.List.{length-map}
use Rattle.std.proofs.lemmas.Result.{MatchResult-weaker}
use Rattle.call_tree.specs.Nodes.{nodes_of, linked, weighed, AreTables}
use Rattle.call_tree.proofs.Weighing.{pushed-all}
use Rattle.call_tree.proofs.nodes.Nodes.append.Goals as goal

pub returns : goal.returns
returns c =
    let links = c.self.inside.links in
    let tables = c.self.inside.weights.items in
    let after = c.take_room.new.tables.items in
    let room = c.in_ok-take_room.ensures.same in
    MatchResult-weaker c.append.result c.append.ensures (λ _ pushed. record {
      width = length-map after (weighed c.append.new.self)
          ∙ room.count ∙ sym (length-map tables (weighed links)) ∙ ap length c.self.view_is;
      each = λ value lt. pushed-all links c.append.new.self tables after c.args.link
          (subst (λ n. AreTables n after) c.len.ensures room.kept) room.count (room.same links) pushed value
          (omega (arith, lt, ap length c.self.view_is))
          ∙ ap (λ all. nodes_of all value ++ linked c.args.link 0 ∷ []) c.self.view_is;
    }) (λ _ same. rw same (room.same links ∙ c.self.view_is))
