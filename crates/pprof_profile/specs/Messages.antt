-- The messages of profile.proto: the number of each field, its kind, and which part of the message it is.
use Rattle.pprof_profile.specs.declared.messages.ValueType.{ValueType}
use Rattle.pprof_profile.specs.declared.messages.Line.{Line}
use Rattle.pprof_profile.specs.declared.messages.Label.{Label}
use Rattle.pprof_profile.specs.declared.messages.Mapping.{Mapping}
use Rattle.pprof_profile.specs.declared.messages.Function.{Function}
use Rattle.pprof_profile.specs.declared.messages.Location.{Location}
use Rattle.pprof_profile.specs.declared.messages.Sample.{Sample}
use Rattle.pprof_profile.specs.declared.messages.Draft.{Draft}
use Rattle.pprof_profile.specs.Forms.{Form, Rows, end, row, unsigned, signed, flag, unsigneds, signeds, texts, each}
use Rattle.pprof_profile.specs.Forms.{one, empty_of}

-- ---- message ValueType

abbrev pub value_type_form : Form ValueType
value_type_form = record {
  rows =
      row 1 signed (λ m. m.kind)
      (row 2 signed (λ m. m.unit)
      end);
  maker = λ kind unit. record {
    kind = kind;
    unit = unit;
  };
}

abbrev pub no_value_type : ValueType
no_value_type = empty_of value_type_form

-- ---- message Line

abbrev pub line_form : Form Line
line_form = record {
  rows =
      row 1 unsigned (λ m. m.function_id)
      (row 2 signed (λ m. m.line)
      end);
  maker = λ function_id line. record {
    function_id = function_id;
    line = line;
  };
}

abbrev pub no_line : Line
no_line = empty_of line_form

-- ---- message Label

abbrev pub label_form : Form Label
label_form = record {
  rows =
      row 1 signed (λ m. m.key)
      (row 2 signed (λ m. m.text)
      (row 3 signed (λ m. m.num)
      (row 4 signed (λ m. m.num_unit)
      end)));
  maker = λ key text num num_unit. record {
    key = key;
    text = text;
    num = num;
    num_unit = num_unit;
  };
}

-- ---- message Mapping

abbrev pub mapping_form : Form Mapping
mapping_form = record {
  rows =
      row 1 unsigned (λ m. m.id)
      (row 2 unsigned (λ m. m.memory_start)
      (row 3 unsigned (λ m. m.memory_limit)
      (row 4 unsigned (λ m. m.file_offset)
      (row 5 signed (λ m. m.filename)
      (row 6 signed (λ m. m.build_id)
      (row 7 flag (λ m. m.has_functions)
      (row 8 flag (λ m. m.has_filenames)
      (row 9 flag (λ m. m.has_line_numbers)
      (row 10 flag (λ m. m.has_inline_frames)
      end)))))))));
  maker =
      λ id memory_start memory_limit file_offset filename build_id has_functions has_filenames has_line_numbers
      has_inline_frames. record {
        id = id;
        memory_start = memory_start;
        memory_limit = memory_limit;
        file_offset = file_offset;
        filename = filename;
        build_id = build_id;
        has_functions = has_functions;
        has_filenames = has_filenames;
        has_line_numbers = has_line_numbers;
        has_inline_frames = has_inline_frames;
      };
}

-- ---- message Function

abbrev pub function_form : Form Function
function_form = record {
  rows =
      row 1 unsigned (λ m. m.id)
      (row 2 signed (λ m. m.name)
      (row 3 signed (λ m. m.system_name)
      (row 4 signed (λ m. m.filename)
      (row 5 signed (λ m. m.start_line)
      end))));
  maker = λ id name system_name filename start_line. record {
    id = id;
    name = name;
    system_name = system_name;
    filename = filename;
    start_line = start_line;
  };
}

abbrev pub no_function : Function
no_function = empty_of function_form

-- ---- message Location

abbrev pub location_form : Form Location
location_form = record {
  rows =
      row 1 unsigned (λ m. m.id)
      (row 2 unsigned (λ m. m.mapping_id)
      (row 3 unsigned (λ m. m.address)
      (row 4 (each line_form) (λ m. m.lines)
      (row 5 flag (λ m. m.is_folded)
      end))));
  maker = λ id mapping_id address lines is_folded. record {
    id = id;
    mapping_id = mapping_id;
    address = address;
    lines = lines;
    is_folded = is_folded;
  };
}

abbrev pub no_location : Location
no_location = empty_of location_form

-- ---- message Sample

abbrev pub sample_form : Form Sample
sample_form = record {
  rows =
      row 1 unsigneds (λ m. m.location_ids)
      (row 2 signeds (λ m. m.values)
      (row 3 (each label_form) (λ m. m.labels)
      end));
  maker = λ location_ids values labels. record {
    location_ids = location_ids;
    values = values;
    labels = labels;
  };
}

abbrev pub no_sample : Sample
no_sample = empty_of sample_form

-- ---- message Profile

-- the fields after the samples
abbrev pub rows_after_samples : Rows Draft
rows_after_samples =
    row 3 (each mapping_form) (λ m. m.mappings)
    (row 4 (each location_form) (λ m. m.locations)
    (row 5 (each function_form) (λ m. m.functions)
    (row 6 texts (λ m. m.strings)
    (row 7 signed (λ m. m.drop_frames)
    (row 8 signed (λ m. m.keep_frames)
    (row 9 signed (λ m. m.time_nanos)
    (row 10 signed (λ m. m.duration_nanos)
    (row 11 (one value_type_form) (λ m. m.period_type)
    (row 12 signed (λ m. m.period)
    (row 13 signeds (λ m. m.comments)
    (row 14 signed (λ m. m.default_sample_type)
    end)))))))))))

abbrev pub draft_form : Form Draft
draft_form = record {
  rows =
      row 1 (each value_type_form) (λ m. m.sample_types)
      (row 2 (each sample_form) (λ m. m.samples)
      rows_after_samples);
  maker =
      λ sample_types samples mappings locations functions strings drop_frames keep_frames time_nanos duration_nanos
      period_type period comments default_sample_type. record {
        sample_types = sample_types;
        samples = samples;
        mappings = mappings;
        locations = locations;
        functions = functions;
        strings = strings;
        drop_frames = drop_frames;
        keep_frames = keep_frames;
        time_nanos = time_nanos;
        duration_nanos = duration_nanos;
        period_type = period_type;
        period = period;
        comments = comments;
        default_sample_type = default_sample_type;
      };
}

abbrev pub no_draft : Draft
no_draft = empty_of draft_form
