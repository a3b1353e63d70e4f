mod Worked
mod Joined
mod Writing
mod Dues
mod Endings
mod Serving
mod Fronts
mod Found
