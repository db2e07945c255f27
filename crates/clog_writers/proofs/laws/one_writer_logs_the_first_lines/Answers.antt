use Rattle.clog_disk.specs.Files.{bytes_at}
use Rattle.clog_writers.proofs.OneWriter.{of_one_writer, says_first}
use Rattle.clog_writers.proofs.laws.one_writer_logs_the_first_lines.Goals as goal

pub returns-clause-says : goal.returns-clause-says
returns-clause-says g = λ ms log history. says_first ms log history

pub returns-clause-restores : goal.returns-clause-restores
returns-clause-restores g = λ ms history opened least image held.
    of_one_writer ms history held (bytes_at opened) least image
