use Rattle.store_window.proofs.filling.fill_window.Given as goal

abbrev pub ghosts-fill_blank : goal.ghosts-fill_blank
ghosts-fill_blank g a =
    record { limit = a.blank.limit; sessions = a.blank.sessions; width = a.blank.width; history = a.blank.history }
