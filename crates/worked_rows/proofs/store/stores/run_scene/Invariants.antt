use Rattle.worked_rows.proofs.store.stores.run_scene.Given as goal

abbrev pub ghosts-run_store : goal.ghosts-run_store
ghosts-run_store g a =
    record { limit = a.blank.limit; sessions = a.blank.sessions; width = a.blank.width; history = a.blank.history }
