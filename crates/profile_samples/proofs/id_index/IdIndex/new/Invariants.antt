use Rattle.std.specs.Prelude.{◌==◌}
use Rattle.std.specs.HashMap as hash
use Rattle.profile_samples.specs.IdIndex.{index_found}
use Rattle.profile_samples.proofs.IdIndex.{AreIndicesOfFirst}
use Rattle.profile_samples.proofs.id_index.IdIndex.new.Given as goal

-- the indices of the ids so far
abbrev pub invariant-loop-at : goal.invariant-loop-at
invariant-loop-at l =
    AreIndicesOfFirst l.fn.ids.items (index_found l.near (hash.get ◌==◌ l.far)) l.at
