-- The messages are lawful.
use Rattle.std.proofs.Common.{refl}
use Rattle.pprof_profile.specs.Messages.{value_type_form, line_form, label_form, mapping_form, function_form}
use Rattle.pprof_profile.specs.Messages.{location_form, sample_form, draft_form}
use Rattle.pprof_profile.proofs.Forms.{LawfulForm}
use Rattle.pprof_profile.proofs.FieldKinds.{unsigned_lawful, signed_lawful, flag_lawful, unsigneds_lawful}
use Rattle.pprof_profile.proofs.FieldKinds.{signeds_lawful, texts_lawful, each_lawful, one_lawful}

ruleset plain = (unsigned_lawful, signed_lawful, flag_lawful, unsigneds_lawful, signeds_lawful, texts_lawful)

pub value_type_lawful : LawfulForm value_type_form
value_type_lawful = record { numbered = refl; kinds = search plain; parts = λ parts. refl; item = λ item. refl }

pub line_lawful : LawfulForm line_form
line_lawful = record { numbered = refl; kinds = search plain; parts = λ parts. refl; item = λ item. refl }

pub label_lawful : LawfulForm label_form
label_lawful = record { numbered = refl; kinds = search plain; parts = λ parts. refl; item = λ item. refl }

pub mapping_lawful : LawfulForm mapping_form
mapping_lawful = record { numbered = refl; kinds = search plain; parts = λ parts. refl; item = λ item. refl }

pub function_lawful : LawfulForm function_form
function_lawful = record { numbered = refl; kinds = search plain; parts = λ parts. refl; item = λ item. refl }

pub location_lawful : LawfulForm location_form
location_lawful = record {
  numbered = refl;
  kinds = search (plain, each_lawful line_form line_lawful);
  parts = λ parts. refl;
  item = λ item. refl;
}

pub sample_lawful : LawfulForm sample_form
sample_lawful = record {
  numbered = refl;
  kinds = search (plain, each_lawful label_form label_lawful);
  parts = λ parts. refl;
  item = λ item. refl;
}

pub draft_lawful : LawfulForm draft_form
draft_lawful = record {
  numbered = refl;
  kinds = search (
    plain,
    each_lawful value_type_form value_type_lawful,
    each_lawful sample_form sample_lawful,
    each_lawful mapping_form mapping_lawful,
    each_lawful location_form location_lawful,
    each_lawful function_form function_lawful,
    one_lawful value_type_form value_type_lawful,
  );
  parts = λ parts. refl;
  item = λ item. refl;
}
