-- What the command makes of words.
use Rattle.std.proofs.Common.{◌≡◌, ◌⊎◌, List, [], ◌∷◌, true, refl, inl, inr}
use Rattle.clap.specs.Words.{HasKind, IsAmong, Kinds, Text, fault_of, is_simple, is_simple_and_free, kind_of}
use Rattle.clap.specs.Words.{subcommand_of}
use Rattle.clap.specs.declared.error.Error.{Error}
use Rattle.clap.specs.declared.error.kind.ErrorKind.{ErrorKind}
use Rattle.clap.specs.declared.error.kind.ErrorKind.TheVariants.{OutOfMemory}
use Rattle.clap.proofs.OnLiterals.{clap_on_literals}
use Rattle.flame_words.specs.Words.{Reading, asked_by, program_app, reading_of, unless_faulty}
use Rattle.flame_words.specs.Words.Reading.{refused}

-- clap's exact statements cover the command
pub is_covered : is_simple_and_free program_app ≡ true
unfolding clap_on_literals
is_covered = refl

pub is_computed : is_simple program_app ≡ true
unfolding clap_on_literals
is_computed = refl

no_reading : (kinds : Kinds) (kind : ErrorKind) (reading : Reading)
    → IsAmong kind kinds → unless_faulty kinds reading ≡ refused
no_reading [] kind reading among = absurd among
no_reading (first ∷ kinds) kind reading among = refl

-- an error of the parse comes from `NoMemory`, or from words that are refused
pub refused_at_error : (words : List Text) (error : Error) → HasKind (fault_of program_app words) error
    → (kind_of error ≡ OutOfMemory) ⊎ (reading_of words ≡ refused)
refused_at_error words error (inl memory) = inl memory
refused_at_error words error (inr among) = inr (no_reading (fault_of program_app words) (kind_of error) _ among)

no_fault : (kinds : Kinds) (reading : Reading) → kinds ≡ [] → unless_faulty kinds reading ≡ reading
no_fault [] reading none = refl
no_fault (kind ∷ kinds) reading none = absurd (cc)

-- without a fault the words are read by their subcommand
pub read_at_success : (words : List Text)
    → fault_of program_app words ≡ [] → reading_of words ≡ asked_by (subcommand_of program_app words)
read_at_success words none = no_fault (fault_of program_app words) (asked_by (subcommand_of program_app words)) none
