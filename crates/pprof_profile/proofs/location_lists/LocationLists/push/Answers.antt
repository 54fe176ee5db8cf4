-- The lists before stand where they stood, and the new one after them.
use Rattle.std.proofs.lemmas.Grind.{common_steps}
use Rattle.std.proofs.Common.{arith, ap, ◌∙◌, ◌++◌, ◌∷◌, [], map}
use Rattle.std.proofs.lemmas.List.{map-append}
use Rattle.std.proofs.lemmas.List.Elements.{All-push}
use Rattle.std.proofs.lemmas.Result.{err_from_is_err_and}
use Rattle.basics.specs.Spans.{items_at}
use Rattle.pprof_profile.specs.LocationLists.{IsSpelledList, ids_of}
use Rattle.pprof_profile.proofs.LocationLists.{all_listed_grown, lists_grown}
use Rattle.pprof_profile.proofs.location_lists.LocationLists.push.Goals as goal

pub returns-in_err-ids : goal.returns-in_err-ids
returns-in_err-ids c =
    let p = err_from_is_err_and c.from_residual-in_err-ids.result c.from_residual-in_err-ids.ensures.1 in
    rw p.1 (lists_grown _ _ _ c.append.ensures.kept _ c.self.invariant ∙ c.self.view_is)

pub returns-in_err-bytes : goal.returns-in_err-bytes
returns-in_err-bytes c =
    let p = err_from_is_err_and c.from_residual-in_err-bytes.result c.from_residual-in_err-bytes.ensures.1 in
    rw p.1 (lists_grown _ _ _ c.append.ensures.kept _ c.self.invariant ∙ c.self.view_is)

pub invariant_of-self-in_err-push : goal.invariant_of-self-in_err-push
invariant_of-self-in_err-push c = grind (arith, common_steps, all_listed_grown)

pub returns-in_err-push : goal.returns-in_err-push
returns-in_err-push c =
    let p = err_from_is_err_and c.from_residual-in_err-push.result c.from_residual-in_err-push.ensures.1 in
    rw p.1 (ap (map (ids_of c.append.new.all.items)) c.in_err-push.ensures.items
    ∙ lists_grown _ _ _ c.append.ensures.kept _ c.self.invariant ∙ c.self.view_is)

pub invariant_of-self-2 : goal.invariant_of-self-2
invariant_of-self-2 c =
    rw c.in_ok-push.ensures.items
    (All-push (IsSpelledList c.append.new.all.items c.append-2.new.all.items)
    c.self.inside.lists.items _
    (all_listed_grown _ _ _ _ c.append.ensures.kept c.append-2.ensures.kept _ c.self.invariant)
    (record {
      ids_are = c.in_ok-ids.ensures.within;
      bytes_are = c.in_ok-bytes.ensures.within;
      spelled = rw (c.in_ok-ids.ensures.items, c.in_ok-bytes.ensures.items) c.requires;
    }))

pub returns : goal.returns
returns c =
    let ids = c.append.new.all.items in (
      grind (arith, common_steps),
      ap (map (ids_of ids)) c.in_ok-push.ensures.items ∙ map-append (ids_of ids) c.self.inside.lists.items (_ ∷ [])
          ∙ ap (λ before. before ++ items_at ids c.in_ok-ids.ids ∷ [])
          (lists_grown _ _ _ c.append.ensures.kept _ c.self.invariant ∙ c.self.view_is)
          ∙ ap (λ list. c.args.self.now ++ list ∷ []) c.in_ok-ids.ensures.items,
    )
