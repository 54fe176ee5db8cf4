-- The lemmas by which the prover finds most laws by itself.
use Rattle.pprof_wire.proofs.EachList.{each_list_splits_into_fields, each_list_splits_into_numbers}
use Rattle.pprof_wire.proofs.ListLaws.{fields_end, fields_joined, number_fault_ends, numbers_end, numbers_joined}
use Rattle.pprof_wire.proofs.ListLaws.{one_field_listed, one_number_listed, written_back}
use Rattle.pprof_wire.proofs.ShortestVarints.{varint_of-shortest, varint_of-spells}
use Rattle.pprof_wire.proofs.VarintLaws.{fault_without_number, tenth-small, varint_fault_once, varint_once}

pub ruleset all_split = (each_list_splits_into_fields, each_list_splits_into_numbers)

pub ruleset ends = (fields_end, numbers_end, number_fault_ends)

pub ruleset listed = (fields_joined, numbers_joined, one_field_listed, one_number_listed, written_back)

pub ruleset spelled = (tenth-small, varint_of-shortest, varint_of-spells, varint_once)

pub ruleset laws = (all_split, ends, listed, spelled, fault_without_number, varint_fault_once)
