-- The numbers of the format and its limits. Lengths are in bytes.
use Rattle.std.specs.Prelude.{ℕ}

-- ---- a segment

-- a segment's header, whose parameters are `{}`
abbrev pub header_size : ℕ
header_size = 20

-- a sync marker
abbrev pub marker_size : ℕ
marker_size = 8

-- the header and the first marker: where the first entry begins
abbrev pub front_size : ℕ
front_size = 28

-- what an entry has around its payload: its size and two checks
abbrev pub frame_size : ℕ
frame_size = 12

-- The least payload that a reader takes. It is Cassandra's own bound; the payloads of this project
-- are longer.
abbrev pub least_payload : ℕ
least_payload = 10

-- the least and the greatest capacity of a segment
abbrev pub least_capacity : ℕ
least_capacity = 4096

abbrev pub greatest_capacity : ℕ
greatest_capacity = 33554432

-- how many segments a path may use at most
abbrev pub most_segments : ℕ
most_segments = 2147483647

-- ---- names and numbers

-- a file's name
abbrev pub longest_file_name : ℕ
longest_file_name = 64

-- a key or a column
abbrev pub longest_name : ℕ
longest_name = 255

-- a mutation's updates
abbrev pub most_updates : ℕ
most_updates = 65535

-- tables are numbered below it
abbrev pub most_tables : ℕ
most_tables = 16

-- writers are numbered below it
abbrev pub most_writers : ℕ
most_writers = 64

-- ---- what is read

-- a mutation file, and a segment file that is read
abbrev pub file_limit : ℕ
file_limit = 67108864

-- how many lines a mutation file has at most
abbrev pub line_limit : ℕ
line_limit = 1000000
