use Rattle.profile_samples.proofs.ExportLaws.{export_valid}
use Rattle.profile_samples.proofs.ExportedBatches.{export_batch, export_rows}
use Rattle.profile_samples.proofs.laws.export_reads_back.Goals as goal

pub returns-clause-valid : goal.returns-clause-valid
returns-clause-valid c = export_valid

pub returns-clause-rows : goal.returns-clause-rows
returns-clause-rows c = export_rows

pub returns-clause-batch : goal.returns-clause-batch
returns-clause-batch c = export_batch
