-- Which fault ends `live`, and of what kind it is.
use Rattle.std.specs.Prelude.{Bool, true, false, List, [], ◌∷◌, Option, None}
use Rattle.std.specs.Option.{option_or}
use Rattle.log_audit.specs.declared.fault.AuditFault.{AuditFault}
use Rattle.log_audit.specs.declared.fault.AuditFault.TheVariants as audit
use Rattle.op_book.specs.declared.fault.BookFault.{BookFault}
use Rattle.op_book.specs.declared.fault.BookFault.TheVariants as book
use Rattle.live_store.specs.declared.fault.MakeFault.{MakeFault}
use Rattle.live_store.specs.declared.fault.MakeFault.TheVariants as make
use Rattle.live_store.specs.declared.fault.SessionFault.{SessionFault}
use Rattle.live_store.specs.declared.fault.SessionFault.TheVariants as session
use Rattle.live_store.specs.declared.fault.WorkersFault.{WorkersFault}
use Rattle.live_store.specs.declared.fault.WorkersFault.TheVariants as workers
use Rattle.live_store.specs.declared.workers.Cause.{Cause}
use Rattle.live_store.specs.declared.workers.Cause.TheVariants as cause
use Rattle.live_store.specs.declared.workers.Stop.{Stop}
use Rattle.live_store.specs.declared.workers.FinishedWorker.{FinishedWorker}
use Rattle.live_report.specs.declared.fault.LiveFault.{LiveFault}
use Rattle.live_report.specs.declared.fault.LiveFault.TheVariants as live

-- `NoMemory` is one fault, wherever it comes; every other cause is told as it is
abbrev pub fault_of_make : MakeFault → LiveFault
fault_of_make make.Sessions = live.Make make.Sessions
fault_of_make make.Place = live.Make make.Place
fault_of_make make.NoMemory = live.NoMemory

abbrev pub fault_of_session : SessionFault → LiveFault
fault_of_session session.AllGiven = live.Session session.AllGiven
fault_of_session session.Place = live.Session session.Place
fault_of_session session.NoMemory = live.NoMemory

abbrev pub fault_of_book : BookFault → LiveFault
fault_of_book book.Session = live.Book book.Session
fault_of_book (book.Turn held) = live.Book (book.Turn held)
fault_of_book (book.Full held) = live.Book (book.Full held)
fault_of_book (book.Width held) = live.Book (book.Width held)
fault_of_book (book.Heavy value held) = live.Book (book.Heavy value held)
fault_of_book book.NoMemory = live.NoMemory
fault_of_book book.Version = live.Book book.Version

abbrev pub fault_of_audit : AuditFault → LiveFault
fault_of_audit (audit.TwoLogs session) = live.Audit (audit.TwoLogs session)
fault_of_audit (audit.Stranger session index) = live.Audit (audit.Stranger session index)
fault_of_audit (audit.Order session index) = live.Audit (audit.Order session index)
fault_of_audit (audit.Missing entry) = live.Audit (audit.Missing entry)
fault_of_audit (audit.WrongAnswer session index) = live.Audit (audit.WrongAnswer session index)
fault_of_audit audit.NoMemory = live.NoMemory

abbrev pub fault_of_workers : WorkersFault → LiveFault
fault_of_workers (workers.Session worker fault) = fault_of_session fault
fault_of_workers workers.NoMemory = live.NoMemory

-- why a worker stopped
abbrev pub fault_of_stop : Cause → LiveFault
fault_of_stop (cause.Book fault) = fault_of_book fault
fault_of_stop cause.Start = live.Start

-- where the first worker stopped of those that did, in the order of their lists
abbrev pub first_stop : List FinishedWorker → Option Stop
first_stop [] = None
first_stop (worked ∷ others) = option_or worked.stopped (first_stop others)

-- no place for a reader of versions, or no memory
abbrev pub is_place_missing : SessionFault → Bool
is_place_missing session.AllGiven = false
is_place_missing session.Place = true
is_place_missing session.NoMemory = true

-- no memory, or no version that could be entered
abbrev pub is_version_missing : BookFault → Bool
is_version_missing book.Session = false
is_version_missing (book.Turn held) = false
is_version_missing (book.Full held) = false
is_version_missing (book.Width held) = false
is_version_missing (book.Heavy value held) = false
is_version_missing book.NoMemory = true
is_version_missing book.Version = true

-- no place for versions, or no memory
abbrev pub is_store_missing : MakeFault → Bool
is_store_missing make.Sessions = false
is_store_missing make.Place = true
is_store_missing make.NoMemory = true

-- memory, a place for versions or their readers, or a thread was missing: nothing was refused
abbrev pub is_shortage : LiveFault → Bool
is_shortage live.Start = true
is_shortage (live.Make fault) = is_store_missing fault
is_shortage (live.Session fault) = is_place_missing fault
is_shortage (live.Book fault) = is_version_missing fault
is_shortage (live.Audit fault) = false
is_shortage live.Warm = false
is_shortage live.NoMemory = true
