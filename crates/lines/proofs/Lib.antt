-- The invariant of the loop that prints a line.
mod Printing
