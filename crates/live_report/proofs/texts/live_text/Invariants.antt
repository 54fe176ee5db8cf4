use Rattle.live_report.proofs.texts.live_text.Given as goal

abbrev pub ghosts-store : goal.ghosts-store
ghosts-store g a =
    record { limit = a.blank.limit; sessions = a.blank.sessions; width = a.blank.width; history = a.blank.history }
