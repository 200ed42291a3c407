-- Values told apart and put.
-- Assumes nothing.
use Rattle.value_parts.proofs.Agreement.{variant_agrees, raw_agrees, data_value_agrees}
use Rattle.value_parts.proofs.Filled.{told_filled}
use Rattle.value_parts.proofs.Trip.{written_told}
use Rattle.value_parts.proofs.TripNames.{name_written, matrix_written}
use Rattle.acceptance.specs.Values.{Values}
use Rattle.acceptance.proofs.ToldSizes.{told_sizes}

pub values : Values
values = record {
  variant = variant_agrees;
  raw = raw_agrees;
  data_value = data_value_agrees;
  filled = λ s at p e. told_filled s at;
  dimensions = told_sizes;
  put = written_told;
  put_name = name_written;
  put_matrix = matrix_written;
}
